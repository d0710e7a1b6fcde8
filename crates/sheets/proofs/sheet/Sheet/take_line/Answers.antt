use Rattle.sheets.proofs.Refused.{turned_down}
use Rattle.sheets.proofs.sheet.Sheet.take_line.Goals as goal

pub returns-in-Err : goal.returns-in-Err
returns-in-Err c =
    turned_down _ _ c.args.line.now c.args.answer.now _ _ c.in-Err.fault _ c.in-Err.is c.answer_text-answered.ensures.value c.answer_text-answered.ensures.after
    c.write_answer-written.ensures
