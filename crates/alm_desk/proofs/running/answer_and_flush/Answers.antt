use Rattle.alm_lines.proofs.Prefixes.{on_err}
use Rattle.alm_desk.proofs.Printed.{broken_handing}
use Rattle.alm_desk.proofs.running.answer_and_flush.Goals as goal

pub returns-clause-broken : goal.returns-clause-broken
returns-clause-broken g c = on_err c.flush.result (broken_handing _ c.in_ok-answer_bytes.ensures.answered c.flush.ensures.bytes)
