-- The table of the core states (after the alarm state model of ANSI/ISA-18.2 and IEC 62682; that a latching alarm stays
-- until it is reset is this project's own).
use Rattle.std.specs.Prelude.{Bool, true, false, Option, Some, None}
use Rattle.alm_types.specs.declared.refusal.Refusal.{Refusal}
use Rattle.alm_types.specs.declared.refusal.Refusal.TheVariants.{NoChange, NotUnacknowledged, NotResettable}
use Rattle.alm_state.specs.declared.core_state.Core.{Core}
use Rattle.alm_state.specs.declared.core_state.Core.TheVariants.{Normal, Unack, Acked, RtnUnack, LatchUnack, LatchAcked}
use Rattle.alm_state.specs.declared.happening.Happening.{Happening}
use Rattle.alm_state.specs.declared.happening.Happening.TheVariants.{Comes, Goes, Ack, Reset}

-- the table of the core states: the next state, by whether the alarm latches, what happens, and the present state
abbrev pub next_core : Bool → Happening → Core → Option Core
next_core latching Comes Normal = Some Unack
next_core latching Comes RtnUnack = Some Unack
next_core latching Comes LatchUnack = Some Unack
next_core latching Comes LatchAcked = Some Unack
next_core false Goes Unack = Some RtnUnack
next_core false Goes Acked = Some Normal
next_core true Goes Unack = Some LatchUnack
next_core true Goes Acked = Some LatchAcked
next_core latching Ack Unack = Some Acked
next_core false Ack RtnUnack = Some Normal
next_core true Ack LatchUnack = Some LatchAcked
next_core true Reset LatchAcked = Some Normal
next_core _ _ _ = None

-- the refusal if the table has no row
abbrev pub refusal_of : Happening → Refusal
refusal_of Comes = NoChange
refusal_of Goes = NoChange
refusal_of Ack = NotUnacknowledged
refusal_of Reset = NotResettable
