-- The closing of the other half's gate.
use Rattle.std.proofs.Common.{◌≡◌, inr, ⊎_elim, ℕ, ◌+◌, Bool, true, false, cond, ◌&&◌, List, [], ◌∷◌, ◌++◌, length, take, drop, Result, Ok, refl, sym, ◌∙◌, ap, subst, arith, length-drop, true≢false}
use Rattle.alm_model.specs.Plant.{Condensed}
use Rattle.alm_disk.specs.Device.{DeviceState, Writes, Syncs}
use Rattle.alm_disk.specs.Device.{IsImage as IsLeft}
use Rattle.alm_disk.proofs.Images.{synced_image}
use Rattle.alm_codec.specs.Versions.{is_open, closed_gate}
use Rattle.alm_checkpoint.specs.Layouts.{layout_byte, is_half_open, half_at, half_len, other}
use Rattle.alm_checkpoint.specs.Cut.{Cut, Stores, Reaches, IsBelow, front, with_other, side_front, side_back}
use Rattle.alm_checkpoint.specs.Cut.{device_of}
use Rattle.alm_checkpoint.specs.declared.layout.Layout.{Layout}
use Rattle.alm_checkpoint.specs.declared.half.Half.{Half}
use Rattle.alm_checkpoint.specs.Headers.{is_summed}
use Rattle.alm_checkpoint.specs.Opening.{checked, half_head_from, beside_from}
use Rattle.alm_keeper.specs.Stand.{SaysIt, Account, account_of, Ready, other_at}
use Rattle.alm_keeper.specs.Resting.{RestsBut, or_within}
use Rattle.alm_keeper.specs.Phases.{with_other_shut, ClosesOther, Rested}
use Rattle.alm_checkpoint.proofs.Grown.{gate_at}
use Rattle.alm_checkpoint.proofs.Turned.{stores_other}
use Rattle.alm_keeper.proofs.Gates.{half_shut}
use Rattle.alm_keeper.proofs.Sides.{by_gate}
use Rattle.alm_keeper.proofs.Resting.{any_gate, gate_rests, syncs_rest, resting}
use Rattle.alm_keeper.proofs.Piecewise.{there, ahead_long}
use Rattle.alm_keeper.proofs.Ending.{none, blind_none}
use Rattle.alm_keeper.specs.Trail.{asked_in}

-- only whether the gate is open counts
same_beside : (l : Layout) (h : Half) (old new : ℕ) (fields : List ℕ) → is_half_open old ≡ true → beside_from l h (old ∷ fields) ≡ Ok tt → beside_from l h (new ∷ fields) ≡ Ok tt
unfolding half_head_from
same_beside l h old new fields was e = by_version (is_summed l.version) (is_half_open new) (ap (λ (b : Bool). cond (is_summed l.version && b) (checked (half_head_from l h (old ∷ fields))) (Ok tt)) (sym was) ∙ e)
  where
    by_version : (summed gate : Bool) → cond (summed && true) (checked (half_head_from l h (old ∷ fields))) (Ok tt) ≡ Ok tt → cond (summed && gate) (checked (half_head_from l h (new ∷ fields))) (Ok tt) ≡ Ok tt
    by_version true true e = e
    by_version true false e = refl
    by_version false gate e = refl

module _ (c : Cut) (plant : Condensed) (gate : ℕ) (tail : List ℕ) (stores : Stores c plant) (closed : is_open c.version gate ≡ false) (reaches : Reaches c (gate ∷ tail)) (opened : is_half_open (layout_byte c.other 0) ≡ true) where
  abbrev ahead : List ℕ
  ahead = side_front c c.half (gate ∷ tail)

  abbrev rear : List ℕ
  rear = side_back c c.half (gate ∷ tail)

  abbrev body : List ℕ
  body = drop 1 c.other

  other_is : c.other ≡ layout_byte c.other 0 ∷ body
  other_is = by_gate c.other (omega (arith, stores.size))

  body_long : 1 + length body ≡ half_len c.layout
  body_long = omega (arith, stores.size, length-drop 1 c.other)

  -- it is an older half
  older : (g : ℕ) → IsBelow c.layout (other c.half) c.epoch (g ∷ body)
  older g = record {
    older = inr (⊎_elim (λ s. absurd (true≢false (sym opened ∙ s))) (λ lt. lt) stores.below.older);
    whole = same_beside c.layout (other c.half) (layout_byte c.other 0) g (take 24 body) opened (ap (λ (x : List ℕ). beside_from c.layout (other c.half) (take 25 x)) (sym other_is) ∙ stores.below.whole);
  }

  with_gate : (g : ℕ) → Stores (with_other c (g ∷ body)) plant
  with_gate g = stores_other c plant (g ∷ body) stores (omega (arith, body_long)) (older g)

  pub holds : (g : ℕ) → SaysIt (account_of c plant) (ahead ++ (g ∷ body) ++ rear)
  holds g = (
    record {
      cut = with_other c (g ∷ body);
      in_epoch = refl;
      stores = with_gate g;
      gate = gate;
      closed = closed;
      tail = tail;
      reaches = reaches;
      text = sym (there c plant gate tail stores closed reaches (g ∷ body));
    },
    refl,
  )

  abbrev shut : ℕ
  shut = closed_gate c.layout.version

  pub now_shut : Ready (with_other_shut (account_of c plant)) (ahead ++ (shut ∷ body) ++ rear)
  now_shut =
      let place : length (front c) ≡ length (front (with_other c (shut ∷ body))) = omega (arith, gate_at c plant (gate ∷ tail) stores reaches, gate_at (with_other c (shut ∷ body)) plant (gate ∷ tail) (with_gate shut) reaches) in
      record {
        cut = with_other c (shut ∷ body);
        is = λ i. record { layout = c.layout; half = c.half; other_open = sym (half_shut c.layout.version) i; version = c.version; epoch = c.epoch; gate = place i; plant = plant; trail = asked_in c.frames };
        stores = with_gate shut;
        gate = gate;
        closed = closed;
        tail = tail;
        reaches = reaches;
        text = sym (there c plant gate tail stores closed reaches (shut ∷ body));
      }

  shown : (state : DeviceState) (b : List ℕ) → b ≡ device_of c (gate ∷ tail) → RestsBut none state b → RestsBut none state (ahead ++ (layout_byte c.other 0 ∷ body) ++ rear)
  shown state b is rests = subst (RestsBut none state) (is ∙ there c plant gate tail stores closed reaches c.other ∙ ap (λ (o : List ℕ). ahead ++ o ++ rear) other_is) rests

  pub close_images : {E : Type 0} (result : Result Unit E) (state new : DeviceState) (b : List ℕ) → b ≡ device_of c (gate ∷ tail) → RestsBut none state b → Writes (half_at c.layout (other c.half)) (shut ∷ []) result state new → (x : List ℕ) → IsLeft new x → SaysIt (account_of c plant) x
  close_images result state new b is rests writes x image =
      any_gate result none state new (half_at c.layout (other c.half)) (layout_byte c.other 0) shut ahead body rear (SaysIt (account_of c plant)) (blind_none (SaysIt (account_of c plant))) (shown state b is rests) writes (sym (ahead_long c plant gate tail stores closed reaches)) holds x image

  pub close_rests : (E : Type 0) (state new : DeviceState) (b : List ℕ) → b ≡ device_of c (gate ∷ tail) → RestsBut none state b → Writes {E = E} (half_at c.layout (other c.half)) (shut ∷ []) (Ok tt) state new → RestsBut (or_within (half_at c.layout (other c.half)) 1 none) new (ahead ++ (shut ∷ body) ++ rear)
  close_rests E state new b is rests writes =
      gate_rests none state new (half_at c.layout (other c.half)) (layout_byte c.other 0) shut ahead body rear (shown state b is rests) writes (sym (ahead_long c plant gate tail stores closed reaches))

-- the write of the closed gate
pub closes_images : {E : Type 0} (result : Result Unit E) (a : Account) (state new : DeviceState) → a.other_open ≡ true → Rested a state → Writes (other_at a) (closed_gate a.layout.version ∷ []) result state new → (b : List ℕ) → IsLeft new b → SaysIt a b
closes_images result a state new opened p writes =
    let r = p.ready in
    subst (λ (y : Account). Writes (other_at y) (closed_gate y.layout.version ∷ []) result state new → (b : List ℕ) → IsLeft new b → SaysIt y b) (sym r.is)
    (close_images r.cut a.plant r.gate r.tail r.stores r.closed r.reaches (ap (λ (y : Account). y.other_open) (sym r.is) ∙ opened) result state new p.bytes r.text p.rests) writes

pub closes : (E : Type 0) (a : Account) (state new : DeviceState) → a.other_open ≡ true → Rested a state → Writes {E = E} (other_at a) (closed_gate a.layout.version ∷ []) (Ok tt) state new → ClosesOther a new
closes E a state new opened p writes =
    let r = p.ready in
    let done : Result Unit E = Ok tt in
    let here = ap (λ (y : Account). y.other_open) (sym r.is) ∙ opened in
    let images = closes_images done a state new opened p writes in
    let goes : (y : Account) → y ≡ account_of r.cut a.plant → Writes {E = E} (other_at y) (closed_gate y.layout.version ∷ []) (Ok tt) state new → ((b : List ℕ) → IsLeft new b → SaysIt y b) → ClosesOther y new = λ y is.
    subst (λ (z : Account). Writes {E = E} (other_at z) (closed_gate z.layout.version ∷ []) (Ok tt) state new → ((b : List ℕ) → IsLeft new b → SaysIt z b) → ClosesOther z new) (sym is)
    (λ w im. record { images = im; bytes = _; ready = now_shut r.cut a.plant r.gate r.tail r.stores r.closed r.reaches here; rests = close_rests r.cut a.plant r.gate r.tail r.stores r.closed r.reaches here E state new p.bytes r.text p.rests w }) in
    goes a r.is writes images

-- its sync: the other half is free
pub closed_rests : (E : Type 0) (a : Account) (state new : DeviceState) → ClosesOther a state → Syncs {E = E} (Ok tt) state new → Rested (with_other_shut a) new
closed_rests E a state new p syncs =
    let rests : RestsBut none new p.bytes = syncs_rest (or_within (other_at a) 1 none) none state new p.bytes p.rests syncs in
    record { images = λ b image. resting none new p.bytes b (Ready (with_other_shut a)) (blind_none (Ready (with_other_shut a))) rests p.ready image; bytes = p.bytes; ready = p.ready; rests = rests }

pub sync_images : {E : Type 0} (result : Result Unit E) (a : Account) (state new : DeviceState) → ClosesOther a state → Syncs result state new → (b : List ℕ) → IsLeft new b → SaysIt a b
sync_images result a state new p syncs b image = p.images b (synced_image result state new b syncs image)
