-- `accepted::numbers_fit` meets its contract: what holds of each lit light holds below the count.
use Rattle.std.proofs.Common.{rules, take, length, ◌≡◌, ◌≤◌, ◌<◌}
use Rattle.std.proofs.lemmas.Iterator.{cases_from_all, YieldsList-from_slice}
use borrow.Author.Tests.{tests}
use Rattle.lighting.specs.declared.Light.{Light}
use Rattle.block.proofs.accepted.Cases.{numbers_told}
use Rattle.block.proofs.accepted.numbers_fit.Goals as goal

pub returns : goal.returns
returns c =
    let lit = take c.args.l.light_count c.args.l.lights in
    let eight : length c.args.l.lights ≡ 8 = search rules in
    numbers_told c.args.l _ eight c.requires
    (cases_from_all _ _ _ (λ (x : Light). x.number.0 ≤ 7) (λ (x : Light). 7 < x.number.0) c.all.ensures.ran (YieldsList-from_slice lit c.iter.ensures.rest)
    (λ x q k. search (rules, tests)) (λ x q k. search (rules, tests)))
