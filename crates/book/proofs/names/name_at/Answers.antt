use Rattle.std.proofs.Common.{◌≡◌, Some, sym, ap, ◌∙◌, rules, arith}
use Rattle.std.proofs.lemmas.Grind.{common_steps}
use Rattle.std.specs.Option.{option_map}
use Rattle.book.specs.Names.{nth_name}
use Rattle.book.proofs.Firsts.{nth_is}
use Rattle.book.proofs.Spelling.{name_utf8}
use Rattle.book.proofs.names.name_at.Goals as goal

pub returns-in_err-name : goal.returns-in_err-name
returns-in_err-name c =
    let is = nth_is c.args.n (record { rest = c.name_bytes-rest.result }) c.nth.new.self c.nth.result c.nth.ensures.ran in
    let none = c.in_err-name.was in
    search rules

pub from_utf8_unchecked-requires : goal.from_utf8_unchecked-requires
from_utf8_unchecked-requires c =
    let is = nth_is c.args.n (record { rest = c.name_bytes-rest.result }) c.nth.new.self c.nth.result c.nth.ensures.ran in
    let there : nth_name c.args.n c.name_bytes-rest.result.now ≡ Some c.in_ok-name.name.now = sym is ∙ ap (option_map (λ x. x.now)) c.in_ok-name.was in
    name_utf8 c.args.n c.name_bytes-rest.result.now c.in_ok-name.name.now there

pub returns-in_ok-name : goal.returns-in_ok-name
returns-in_ok-name c =
    let is = nth_is c.args.n (record { rest = c.name_bytes-rest.result }) c.nth.new.self c.nth.result c.nth.ensures.ran in
    let there : nth_name c.args.n c.name_bytes-rest.result.now ≡ Some c.in_ok-name.name.now = sym is ∙ ap (option_map (λ x. x.now)) c.in_ok-name.was in
    grind (arith, common_steps)
