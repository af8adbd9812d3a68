-- How works are begun, in each phase.
use Rattle.std.proofs.Common.{◌≡◌, inl, ℕ, ◌+◌, ◌^◌, ◌≤◌, ◌<◌, Bool, true, false, List, ◌∷◌, Some, None, refl, sym, subst, arith}
use Rattle.alm_codec.specs.declared.asked.Asked.{Asked}
use Rattle.alm_model.specs.Rules.{KeepsRules}
use Rattle.alm_codec.specs.Image.{IsOf}
use Rattle.alm_disk.specs.Device.{DeviceState}
use Rattle.alm_checkpoint.specs.Layouts.{segment_at}
use Rattle.alm_keeper.specs.Stand.{Ready, Account, end_of_half}
use Rattle.alm_keeper.specs.declared.stage.Stage.TheVariants.{Body}
use Rattle.alm_keeper.specs.Piecewise.{Copy, new_copy, IsCopy}
use Rattle.alm_keeper.specs.Phases.{with_other_shut, UnderWay, Rest, Shut, Pause, Frame, Commits, KeptIn}
use Rattle.alm_checkpoint.proofs.Grown.{gate_at}
use Rattle.alm_keeper.proofs.Between.{begins, between}
use Rattle.alm_keeper.proofs.Phases.{opens}

-- a commit
pub idle_commits : (a : Account) (actions : List Asked) (state : DeviceState) → Commits a actions → KeptIn Rest a state → KeptIn (Frame None Body actions) a state
idle_commits a actions state is r =
    (is, tt, begins a actions 0 state r.bytes (inl refl) is.0 is.1 is.2 r.images r.ready (record { reads = r.rests.reads; within = λ i free. r.rests.within i refl; sound = r.rests.sound }))

pub paused_commits : (a : Account) (k : Copy) (actions : List Asked) (state : DeviceState) → a.gate + 1 ≤ end_of_half a → Commits a actions → KeptIn (Pause k) a state → KeptIn (Frame (Some k) Body actions) a state
paused_commits a k actions state gate is kept = (is, (kept.0, kept.1.wrote), between a k actions state kept.0 gate kept.1 is.0 is.1 is.2)

-- a checkpoint: the stored plant is copied; the other half's gate is closed first if it reads open
abbrev pub first_work : Bool → Copy → UnderWay
first_work true k = Shut k
first_work false k = Pause k

at_gate : (a : Account) (b : List ℕ) → Ready a b → segment_at a.layout a.half ≤ a.gate
at_gate a b r = subst (λ (y : Account). segment_at y.layout y.half ≤ y.gate) (sym r.is) (omega (arith, gate_at r.cut a.plant (r.gate ∷ r.tail) r.stores r.reaches, r.reaches))

pub fresh_copy : (a : Account) (b : List ℕ) → a.epoch + 1 < 2 ^ 64 → KeepsRules a.plant → IsOf a.layout.rows a.layout.areas a.plant.panel.count a.plant → a.plant.panel.count ≤ 2 ^ 48 → Ready a b → IsCopy (with_other_shut a) (new_copy a)
fresh_copy a b more rules sizes count r = record {
  more = more;
  image = record { rules = rules; fits = (let s = rules.stamps in omega (arith, s, count)); text = refl };
  sizes = sizes;
  count = count;
  frames = tt;
  admitted = tt;
  runs = refl;
  room = omega (arith, at_gate a b r);
  shut = refl;
  left = omega arith;
}

pub idle_copies : (a : Account) (state : DeviceState) → a.epoch + 1 < 2 ^ 64 → KeepsRules a.plant → IsOf a.layout.rows a.layout.areas a.plant.panel.count a.plant → a.plant.panel.count ≤ 2 ^ 48 → KeptIn Rest a state → KeptIn (first_work a.other_open (new_copy a)) a state
idle_copies a state more rules sizes count r = by_gate a.other_open refl
  where
    copy : IsCopy (with_other_shut a) (new_copy a)
    copy = fresh_copy a r.bytes more rules sizes count r.ready

    by_gate : (o : Bool) → a.other_open ≡ o → KeptIn (first_work o (new_copy a)) a state
    by_gate true is = (is, copy, refl, r)
    by_gate false is = (subst (λ (x : Bool). IsCopy (record a { other_open = x }) (new_copy a)) (sym is) copy, opens a (new_copy a) state refl r)
