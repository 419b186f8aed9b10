use Rattle.std.proofs.Common.{map, refl, sym, ◌∙◌, inl, inr, arith}
use Rattle.std.proofs.lemmas.Bool.{cases_eq}
use Rattle.std.proofs.lemmas.List.{length-map}
use Rattle.std.proofs.lemmas.Option.{slice_get_read}
use Rattle.checked.proofs.Repeating.{stands_earlier, stands_nowhere, distinct_from}
use Rattle.checked.proofs.names.repeat.Goals as goal

pub returns-then-is_among : goal.returns-then-is_among
returns-then-is_among g c =
    let there = slice_get_read c.args.entries.now _ c.loop-j.j c.index-entries-j.result refl c.loop-j-test.true c.index-entries-j.is in
    stands_earlier g.T.Named.called c.args.entries.now c.loop-j.j c.index-entries-j.result there (sym (rw c.name.ensures at c.is_among.ensures) ∙ c.if-is_among.true)

pub loop-j-preserved : goal.loop-j-preserved
loop-j-preserved g c k i n low under hi hk =
    elim (cases_eq k c.loop-j.j) [
      | inl same ↦
          let there = slice_get_read c.args.entries.now _ c.loop-j.j c.index-entries-j.result refl c.loop-j-test.true c.index-entries-j.is in
          stands_nowhere g.T.Named.called c.args.entries.now c.loop-j.j c.index-entries-j.result there (sym (rw c.name.ensures at c.is_among.ensures) ∙ c.if-is_among.false) i n (omega arith) hi (rw same at hk)
      | inr other ↦ c.loop-j.invariant k i n (omega arith) under hi hk
    ]

pub returns : goal.returns
returns g c = distinct_from (map g.T.Named.called c.args.entries.now) c.loop-j.j (omega (arith, length-map c.args.entries.now g.T.Named.called)) c.loop-j.invariant
