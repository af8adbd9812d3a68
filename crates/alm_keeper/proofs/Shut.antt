-- A device whose header is closed.
use Rattle.std.proofs.Common.{◌≡◌, inl, ⊎_elim, ℕ, ◌≤◌, Bool, true, false, List, [], ◌∷◌, length, take, drop, Result, Ok, Err, refl, ◌∙◌, ap, ◌||◌}
use Rattle.alm_disk.specs.Device.{DeviceState, IsImage, Writes, Syncs, is_within}
use Rattle.alm_disk.proofs.Images.{synced_image}
use Rattle.alm_disk.proofs.Places.{below}
use Rattle.alm_checkpoint.specs.Layouts.{is_header_open}
use Rattle.alm_checkpoint.specs.declared.device_fault.DeviceFault.{DeviceFault}
use Rattle.alm_checkpoint.specs.declared.device_fault.DeviceFault.TheVariants.{Unformatted}
use Rattle.alm_checkpoint.specs.declared.layout.Layout.{Layout}
use Rattle.alm_checkpoint.specs.Layouts.{layout_byte}
use Rattle.alm_checkpoint.specs.Opening.{◌>>=◌, rule, opened_half, layout_from, layout_in, heads_in, opened_in}
use Rattle.alm_checkpoint.specs.Standing.{HasFault}
use Rattle.alm_keeper.specs.Formatting.{IsShut, StaysUnformatted}

two_rules : {A : Type 0} (a b : Bool) (f : DeviceFault) (k : Unit → Result A DeviceFault) → b ≡ false → (rule a f >>= λ _. rule b f >>= k) ≡ Err f
two_rules true true f k e = absurd (cc)
two_rules true false f k e = refl
two_rules false b f k e = refl

first_byte : (c : List ℕ) → layout_byte (take 23 (drop 0 c)) 0 ≡ layout_byte c 0
first_byte [] = refl
first_byte (x ∷ c) = refl

closed_header : (c : List ℕ) → is_header_open (layout_byte c 0) ≡ false → layout_in c ≡ Err Unformatted
unfolding layout_from
closed_header c e = two_rules _ (is_header_open (layout_byte (take 23 (drop 0 c)) 0)) Unformatted _ (ap is_header_open (first_byte c) ∙ e)

pub unformatted : (c : List ℕ) → is_header_open (layout_byte c 0) ≡ false → HasFault c Unformatted
unfolding opened_in
unformatted c e = inl (ap (λ (r : Result Layout DeviceFault). r >>= λ l. heads_in l c >>= λ x. Ok (opened_half l x.0 x.1 c)) (closed_header c e))

pub shut_image : (state : DeviceState) (c : List ℕ) → IsShut state → IsImage state c → HasFault c Unformatted
shut_image state c s image = unformatted c (ap is_header_open (image.stable 0 s.stable) ∙ s.closed)

pub write_shut : {E : Type 0} (result : Result Unit E) (old new : DeviceState) (at : ℕ) (bytes : List ℕ) → 1 ≤ at → Writes at bytes result old new → IsShut old → IsShut new
write_shut result old new at bytes behind w s =
    let out : is_within at (length bytes) 0 ≡ false = below at (length bytes) 0 behind in
    record { stable = w.pending 0 ∙ (λ i. out i || old.pending 0) ∙ s.stable; closed = ap is_header_open (w.outside 0 out) ∙ s.closed }

pub write_moments : {E : Type 0} (result : Result Unit E) (old new : DeviceState) (at : ℕ) (bytes : List ℕ) → 1 ≤ at → Writes at bytes result old new → IsShut old → StaysUnformatted old new
write_moments result old new at bytes behind w s b moment = ⊎_elim (shut_image old b s) (shut_image new b (write_shut result old new at bytes behind w s)) moment

pub sync_shut : {E : Type 0} (old new : DeviceState) → Syncs {E = E} (Ok tt) old new → IsShut old → IsShut new
sync_shut old new y s = record { stable = y.nothing_pending 0; closed = ap is_header_open (y.one_image.stable 0 s.stable) ∙ s.closed }

pub sync_moments : {E : Type 0} (result : Result Unit E) (old new : DeviceState) → Syncs result old new → IsShut old → StaysUnformatted old new
sync_moments result old new y s b moment = ⊎_elim (shut_image old b s) (λ image. shut_image old b s (synced_image result old new b y image)) moment
