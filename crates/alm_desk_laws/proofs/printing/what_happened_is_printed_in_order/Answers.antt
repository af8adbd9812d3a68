use Rattle.alm_desk_laws.proofs.Happened.{happened-done, told, forgotten, oldest-told}
use Rattle.alm_desk_laws.proofs.printing.what_happened_is_printed_in_order.Goals as goal

pub returns : goal.returns
returns c = record { actions = happened-done; told = told; forgotten = forgotten; oldest = oldest-told }
