-- A new plant.
use Rattle.std.specs.Prelude.{ℕ, [], false, None, length, replicate}
use Rattle.alm_types.specs.Tables.{Listing}
use Rattle.alm_state.specs.Rows.{State}
use Rattle.alm_state.specs.declared.core_state.Core.TheVariants.{Normal}
use Rattle.alm_model.specs.Plant.{Condensed, Measures}

-- an alarm without a condition
abbrev pub at_rest : State
at_rest = record { active = false; core = Normal; shelved_until = None; by_design = false; out_of_service = false; stamp = 0 }

-- there was no annunciation yet
abbrev pub no_measures : ℕ → ℕ → Measures
no_measures areas alarms = record { ages = replicate areas (replicate 600 0); moments = replicate alarms [] }

abbrev pub new_plant : Listing → Condensed
new_plant t = record {
  panel = record { now = 0; count = 0; next_stamp = 1; attrs = t.alarms; rows = replicate (length t.alarms) at_rest };
  kept = no_measures t.areas (length t.alarms);
  floods = replicate t.areas false;
}
