-- What the paces of the two threads remember, and why the open batch is sealed.
use Rattle.std.specs.Prelude.{◌≡◌, ◌/◌, ◌==◌, ◌⊎◌, Bool, ℕ, cond, false, min, true}
use Rattle.alm_wake.specs.declared.gathering.Gathering.{Gathering}
use Rattle.alm_wake.specs.declared.sealing.Sealing.{Sealing}
use Rattle.alm_wake.specs.declared.sealing.Sealing.TheVariants.{Now, After, Later}
use Rattle.alm_wake.specs.declared.waking.Waking.{Waking}
use Rattle.alm_wake.specs.Gatherings.{AwaitsNone, AwaitsSome}
use Rattle.alm_wake.specs.Wakings.{with_reply}

-- The open batch is sealed now if it is full, has waited, or awaits no slot. It waits for slots that the last one answered, for
-- half of the time that the last one took. A full one waits for nothing.
abbrev pub DecidesOn : Bool → Gathering → ℕ → Sealing → Type 0
DecidesOn full g took Now = (full ≡ true) ⊎ (g.fresh ≡ true → AwaitsNone g)
DecidesOn full g took (After pause) =
    (full ≡ false) × (g.fresh ≡ true) × AwaitsSome g × (pause.micros ≡ min (took / 2) 500)
DecidesOn full g took Later = full ≡ false

-- a batch that waits is not fresh any more
abbrev pub WaitsOnce : Sealing → Bool → Type 0
WaitsOnce Now fresh = Unit {0}
WaitsOnce (After pause) fresh = fresh ≡ false
WaitsOnce Later fresh = Unit {0}

-- a slot has a reply: if no batch waits it is woken now, and otherwise the reply is kept for later
abbrev pub after_reply : Waking → ℕ → Waking
after_reply w s = cond (w.waiting == 0) w (record w { replies = with_reply w.replies s })
