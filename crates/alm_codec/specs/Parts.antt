-- For the proofs.
-- The values that the parts filled by a reader hold.
use Rattle.std.specs.Prelude.{◌≤◌, ◌<◌, take}
use Rattle.alm_types.specs.Attributes.{deadband_limit}
use Rattle.alm_state.specs.Rows.{IsState}
use Rattle.alm_codec.specs.declared.alarm_parts.AlarmParts.{AlarmParts}
use Rattle.alm_codec.specs.declared.area_parts.AreaParts.{AreaParts}
use Rattle.alm_codec.specs.ImageFields.{Alarm, Area}
use Rattle.alm_types.specs.Sizes.{most_areas}

abbrev pub area_from : AreaParts → Area
area_from p = record { flood = p.flood; ages = p.ages }

abbrev pub alarm_in : AlarmParts → Alarm
alarm_in p = record {
  fixed = p.fixed;
  state = record { active = p.active; core = p.core; shelved_until = p.deadline; by_design = p.flags.by_design; out_of_service = p.flags.out_of_service; stamp = p.stamp };
  moments = take p.kept p.moments;
}

-- what attributes and a row keep
pub record InLimits (x : Alarm) : Type 0 where
  pub deadband : x.fixed.deadband ≤ deadband_limit x.fixed.kind
  pub priority : (1 ≤ x.fixed.priority) × (x.fixed.priority ≤ 4)
  pub area : x.fixed.area < most_areas
  pub max_shelve : x.fixed.max_shelve ≤ 604800
  pub state : IsState x.state
