use Rattle.std.proofs.Common.{rules, ◌≡◌, ◌+◌, ◌≤◌, sym, ap, ◌∙◌, subst}
use Rattle.book.specs.Books.{bytes_of}
use Rattle.book.specs.Layout.{class_at, field_at}
use Rattle.book.specs.Strips.{node_at}
use Rattle.cool.specs.View.{root_of}
use Rattle.checked.specs.Tables.{FilledBy, decoded_method}
use Rattle.checked.proofs.Viewed.{classes_tabled, means, top_low}
use Rattle.checked.proofs.decode.decode.Goals as goal

pub root_of-root-requires : goal.root_of-root-requires
root_of-root-requires c = subst (λ s. s.first + s.nodes ≤ 4000) (sym c.top.ensures) (top_low (bytes_of c.args.book) c.args.book.clear)

pub invariant_of-result : goal.invariant_of-result
invariant_of-result c =
    let bs = bytes_of c.args.book in
    let h = c.table_of-classes.ensures in
    let classes : FilledBy (λ i o. o ≡ class_at bs i) 64 c.table_of-classes.result.items = (h.0, λ i low. search (rules, h.1 i low), λ short. search (rules, h.2 short)) in
    let f = c.table_of-fields.ensures in
    let fields : FilledBy (λ i o. o ≡ field_at bs i) 512 c.table_of-fields.result.items = (f.0, λ i low. search (rules, f.1 i low), λ short. search (rules, f.2 short)) in
    let m = c.table_of-methods.ensures in
    let methods : FilledBy (λ i o. o ≡ decoded_method bs i) 256 c.table_of-methods.result.items = (m.0, λ i low. search (rules, m.1 i low), λ short. search (rules, m.2 short)) in
    let n = c.table_of-nodes.ensures in
    let nodes : FilledBy (λ i o. o ≡ node_at bs i) 4000 c.table_of-nodes.result.items = (n.0, λ i low. search (rules, n.1 i low), λ short. search (rules, n.2 short)) in
    record {
      listed = classes_tabled bs c.args.book.clear _ classes;
      means = means bs c.args.book.clear _ _ _ _ _ classes fields methods nodes (c.root_of-root.ensures ∙ ap root_of c.top.ensures);
    }
