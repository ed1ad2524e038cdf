use Rattle.std.proofs.Common.{rules, tests, ◌∙◌, eqb}
use Rattle.std.proofs.lemmas.Iterator.{YieldsList-from_slice}
use Rattle.std.proofs.lemmas.Iterator.Search.{all_from_yields_List}
use Rattle.scan.proofs.Scan.{zero_all}
use Rattle.scan.proofs.words.zero_bytes.Goals as goal

pub returns : goal.returns
returns c =
    let a = c.args.a.now in
    all_from_yields_List (λ x. eqb x 0) _ _ _ c.all.ensures.ran (YieldsList-from_slice a cc) (λ x b q k. search (rules, tests)) ∙ zero_all a
