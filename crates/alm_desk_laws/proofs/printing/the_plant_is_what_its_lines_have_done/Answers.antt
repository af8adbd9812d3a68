use Rattle.alm_desk_laws.proofs.Done.{plant-done, count-done}
use Rattle.alm_desk_laws.proofs.printing.the_plant_is_what_its_lines_have_done.Goals as goal

pub returns : goal.returns
returns c = record { run = λ t s lines q h. (plant-done t s lines q h).0; admitted = λ t s lines q h. (plant-done t s lines q h).1; count = count-done }
