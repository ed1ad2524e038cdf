use Rattle.std.proofs.Common.{rules, tests, ap, ◌∙◌, eqb, length}
use Rattle.std.proofs.lemmas.Iterator.{YieldsList-from_slice}
use Rattle.std.proofs.lemmas.Iterator.Consumers.{count_from_yields_List}
use Rattle.std.proofs.lemmas.Iterator.Search.{YieldsList-from_take_while}
use Rattle.byte_scans.proofs.Bytes.{ff_while}
use Rattle.byte_scans.proofs.ff_run.Goals as goal

pub returns-clause-value : goal.returns-clause-value
returns-clause-value c =
    let a = c.args.a.now in
    count_from_yields_List _ _ c.count.ensures.ran (YieldsList-from_take_while _ (λ x. eqb x 255) (YieldsList-from_slice a cc) (cc) (cc) (λ x r q k. search (rules, tests)))
    ∙ ap length (ff_while a)
