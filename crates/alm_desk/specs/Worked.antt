-- The worked table: four alarms in two areas.
use Rattle.std.specs.Prelude.{◌≡◌, List, [], ◌∷◌, false, true, map, codes, pos}
use Rattle.alm_types.specs.Tables.{Listing}
use Rattle.alm_types.specs.declared.attr.Attr.{Attr}
use Rattle.alm_types.specs.declared.settings.Settings.{Settings}
use Rattle.alm_types.specs.declared.kind.Kind.TheVariants.{High, Low, Discrete}

-- the settings of an alarm
abbrev pub settings_of : Attr → Settings
settings_of a =
    record {
      kind = a.kind;
      setpoint = a.setpoint;
      deadband = a.deadband;
      priority = a.priority;
      area = a.area;
      latching = a.latching;
      max_shelve = a.max_shelve;
    }

abbrev pub worked_settings : List Settings
worked_settings =
    record { kind = High; setpoint = pos 800; deadband = 10; priority = 1; area = 0; latching = false; max_shelve = 3600 }
    ∷ record { kind = Low; setpoint = pos 100; deadband = 5; priority = 2; area = 0; latching = false; max_shelve = 3600 }
    ∷ record { kind = Discrete; setpoint = pos 1; deadband = 0; priority = 1; area = 1; latching = true; max_shelve = 0 }
    ∷ record { kind = High; setpoint = pos 50; deadband = 0; priority = 3; area = 1; latching = false; max_shelve = 0 }
    ∷ []

pub record IsWorked (t : Listing) : Type 0 where
  pub areas : t.areas ≡ 2
  pub settings : map settings_of t.alarms ≡ worked_settings
  pub tags : map (λ a. a.tag) t.alarms ≡ codes "TI-101" ∷ codes "PI-102" ∷ codes "XS-201" ∷ codes "LI-202" ∷ []
  pub texts : map (λ a. a.text) t.alarms ≡ [] ∷ [] ∷ [] ∷ [] ∷ []
