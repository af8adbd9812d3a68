use Rattle.alm_laws.proofs.Counting.{window-counted, moments-counted}
use Rattle.alm_laws.proofs.lists.measures_count_every_annunciation.Goals as goal

pub returns : goal.returns
returns c = record { windows = window-counted; moments = moments-counted }
