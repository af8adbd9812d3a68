use Rattle.alm_lines.proofs.Prefixes.{printed_front}
use Rattle.alm_desk.proofs.Pieces.{cut_line}
use Rattle.alm_desk.proofs.local_desk.LocalDesk.answer.Goals as goal

pub returns-in-Err-clause-cut : goal.returns-in-Err-clause-cut
returns-in-Err-clause-cut g c =
    let front = printed_front _ _ _ c.answer_line-hindrance.result.1 _ c.in-Err.is c.answer_line-hindrance.ensures.text in
    λ e. rw (← c.self.view_is, ← c.line_of-line.ensures) (cut_line _ _ _ c.answer_line-hindrance.result.0 _ _ c.answer_line-hindrance.ensures.standing front)
