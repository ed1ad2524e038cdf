use borrow.Author.Rules.{rules}
use Rattle.list_lines.proofs.Rules.{slot_lines}
use Rattle.list_lines.proofs.SlotLines.{lines_written}
use Rattle.list_lines.proofs.slot_lines.Goals as goal

pub loop-i-preserved : goal.loop-i-preserved
loop-i-preserved c =
    let w = lines_written c.args.pivots.now c.args.edges.now c.loop-i.i c.loop-i.n c.min-at.result c.args.dest.now c.loop-i.dest c.slot_line-n.new.dest
    (search rules) (search rules) (search rules) c.slot_line-n.ensures.written in
    search (rules, slot_lines, w)
