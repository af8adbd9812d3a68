use Rattle.alm_lines.proofs.Lengths.{request-length}
use Rattle.alm_lines.proofs.Requests.{taken, request-read}
use Rattle.alm_lines.proofs.laws.each_request_has_one_text.Goals as goal

pub returns : goal.returns
returns c = record { taken = taken; short = request-length; asked = request-read }
