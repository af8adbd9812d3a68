use Rattle.alm_laws.proofs.Moved.{by-action, by-clock}
use Rattle.alm_laws.proofs.Plants.{others-stay}
use Rattle.alm_laws.proofs.plant.each_alarm_is_left_by_the_laws.Goals as goal

pub returns : goal.returns
returns c = record { named = by-action; due = by-clock; others = others-stay }
