-- Moments continue, and what is held at one stays stored.
use Rattle.std.proofs.Common.{◌≡◌, ◌⊎◌, ⊎_elim, inl, inr, ◌↔◌, ℕ, zero, suc, ◌≤◌, ◌<◌, Bool, true, false, nat_lt, List, [], ◌∷◌, ◌++◌, length, refl, sym, ap, ◌∙◌, subst, arith, append_assoc}
use Rattle.std.specs.Prelude.{◌+◌, ◌-◌, get_or, not, take, drop}
use Rattle.std.proofs.lemmas.Bool.{ltb-true, ltb-false}
use Rattle.std.proofs.lemmas.List.{append-nil, take-append-drop}
use Rattle.std.proofs.Math.Seq.{take-append-add}
use Rattle.std.proofs.Props.{props}
use Rattle.std.proofs.Math.Logic.{∥∥₁_elim, ∥∥₁_map}
use mathlib.Core.List.{IsPrefix}
use Rattle.alm_types.specs.declared.action.Action.{Action}
use Rattle.alm_disk.specs.Device.{DeviceState, AreBytes, IsImage, byte_at}
use Rattle.alm_model.specs.Plant.{Condensed}
use Rattle.alm_model.specs.Rules.{KeepsRules}
use Rattle.alm_store.specs.Calls.{IsCall}
use Rattle.alm_store.specs.Recovery.{IsPrefixPlant, IsSafe}
use Rattle.alm_store.proofs.Recovery.{safe_by, prefix_is}
use Rattle.alm_model.specs.Step.{run}
use Rattle.alm_moments.specs.declared.recorded_moment.RecordedMoment.{RecordedMoment}
use Rattle.alm_moments.specs.Moments.{first_values, moment_of, device_at, IsDevice, IsNextMoment, FollowOn, last_of, opening_moment, IsSafeMoment, AreMoments, AreHeld, StaysStored, now_of}

get_first : (n : ℕ) (f : ℕ → Bool) (k : ℕ) → k < n → get_or (first_values n f) k false ≡ f k
get_first zero f k lt = absurd (omega (arith, lt))
get_first (suc n) f zero lt = refl
get_first (suc n) f (suc k) lt = get_first n (λ j. f (suc j)) k (omega (arith, lt))

beyond : (xs : List ℕ) (k : ℕ) → length xs ≤ k → byte_at xs k ≡ 0
beyond [] k le = refl
beyond (x ∷ xs) zero le = absurd (omega (arith, le))
beyond (x ∷ xs) (suc k) le = beyond xs k (omega (arith, le))

stable_at : (d : DeviceState) (image : List ℕ) → length image ≡ length d.bytes
    → ((place : ℕ) → get_or (first_values (length d.bytes) d.pending) place false ≡ false → byte_at image place ≡ byte_at d.bytes place)
    → (place : ℕ) → d.pending place ≡ false → (b : Bool) → nat_lt place (length d.bytes) ≡ b → byte_at image place ≡ byte_at d.bytes place
stable_at d image size stable place not true is = stable place (get_first (length d.bytes) d.pending place (ltb-true place (length d.bytes) is) ∙ not)
stable_at d image size stable place not false is =
    let out : length d.bytes ≤ place = ltb-false place (length d.bytes) is in
    beyond image place (omega (arith, size, out)) ∙ sym (beyond d.bytes place out)

-- what a crash may leave at a moment it may leave of the device
pub image_of : (d : DeviceState) (accepted : List Action) (number : ℕ) (image : List ℕ) → IsImage (device_at (moment_of d accepted number)) image → IsImage d image
image_of d accepted number image i = record {
  size = i.size;
  bytes = i.bytes;
  stable = λ place not. stable_at d image i.size i.stable place not (nat_lt place (length d.bytes)) refl;
}

back_at : (d : DeviceState) (image : List ℕ) → IsImage d image → (place : ℕ) → get_or (first_values (length d.bytes) d.pending) place false ≡ false
    → (b : Bool) → nat_lt place (length d.bytes) ≡ b → byte_at image place ≡ byte_at d.bytes place
back_at d image i place not true is = i.stable place (sym (get_first (length d.bytes) d.pending place (ltb-true place (length d.bytes) is)) ∙ not)
back_at d image i place not false is =
    let out : length d.bytes ≤ place = ltb-false place (length d.bytes) is in
    beyond image place (omega (arith, i.size, out)) ∙ sym (beyond d.bytes place out)

-- and what it may leave of the device it may leave at the moment
image_back : (d : DeviceState) (accepted : List Action) (number : ℕ) (image : List ℕ) → IsImage d image → IsImage (device_at (moment_of d accepted number)) image
image_back d accepted number image i = record {
  size = i.size;
  bytes = i.bytes;
  stable = λ place not. back_at d image i place not (nat_lt place (length d.bytes)) refl;
}

-- a crash may leave at a moment exactly what it may leave of its device
pub images_at : (d : DeviceState) (m : RecordedMoment) → IsDevice d m → (image : List ℕ) → (IsImage d image ↔ IsImage (device_at m) image)
images_at d m is image = (
  λ i. rw (is.0, is.1, is.2) (image_back d [] 0 image i),
  λ i. image_of d [] 0 image (rw (is.0, is.1, is.2) at i),
)

leads_on : (safe : RecordedMoment → Type 0) (m : RecordedMoment) (moments : List RecordedMoment) (next : RecordedMoment) → FollowOn safe m moments → IsNextMoment (last_of m moments) next → safe next → FollowOn safe m (moments ++ next ∷ [])
leads_on safe m [] next l follows is = (follows, is, tt)
leads_on safe m (n ∷ moments) next l follows is = (l.0, l.1, leads_on safe n moments next l.2 follows is)

-- the floor never falls
rises : (m n : RecordedMoment) → IsNextMoment m n → m.floor ≤ n.floor
rises m n f = ⊎_elim (λ c. omega (arith, c.2)) (λ s. s.4) f

last_rises : (safe : RecordedMoment → Type 0) (m : RecordedMoment) (moments : List RecordedMoment) → FollowOn safe m moments → m.floor ≤ (last_of m moments).floor
last_rises safe m [] l = omega arith
last_rises safe m (n ∷ moments) l = omega (arith, rises m n l.0, last_rises safe n moments l.2)

told_stays : (safe : RecordedMoment → Type 0) (m : RecordedMoment) (told rest : List RecordedMoment) → FollowOn safe m (told ++ rest) → (last_of m told).floor ≤ (last_of m (told ++ rest)).floor
told_stays safe m [] rest l = last_rises safe m rest l
told_stays safe m (n ∷ told) rest l = told_stays safe n told rest l.2

pub prefix_self : {A : Type 0} (xs : List A) → IsPrefix xs xs
prefix_self xs = ([], append-nil xs)

prefix_trans : {A : Type 0} (xs ys zs : List A) → IsPrefix xs ys → IsPrefix ys zs → IsPrefix xs zs
prefix_trans xs ys zs p q = (p.0 ++ q.0, sym (append_assoc xs p.0 q.0) ∙ (ap (λ w. w ++ q.0) p.1 ∙ q.1))

-- and so does what was accepted
grows : (m n : RecordedMoment) → IsNextMoment m n → IsPrefix m.accepted n.accepted
grows m n f = ⊎_elim (λ c. subst (λ (l : List Action). IsPrefix m.accepted l) (sym c.1) (prefix_self m.accepted)) (λ s. s.3) f

last_grows : (safe : RecordedMoment → Type 0) (m : RecordedMoment) (moments : List RecordedMoment) → FollowOn safe m moments → IsPrefix m.accepted (last_of m moments).accepted
last_grows safe m [] l = prefix_self m.accepted
last_grows safe m (n ∷ moments) l = prefix_trans m.accepted n.accepted (last_of n moments).accepted (grows m n l.0) (last_grows safe n moments l.2)

told_grows : (safe : RecordedMoment → Type 0) (m : RecordedMoment) (told rest : List RecordedMoment) → FollowOn safe m (told ++ rest) → IsPrefix (last_of m told).accepted (last_of m (told ++ rest)).accepted
told_grows safe m [] rest l = last_grows safe m rest l
told_grows safe m (n ∷ told) rest l = told_grows safe n told rest l.2

last_safe : (safe : RecordedMoment → Type 0) (m : RecordedMoment) (moments : List RecordedMoment) → safe m → FollowOn safe m moments → safe (last_of m moments)
last_safe safe m [] is l = is
last_safe safe m (n ∷ moments) is l = last_safe safe n moments l.1 l.2

lower : (recovers : List ℕ → Condensed → Type 0) (base : Condensed) (accepted : List Action) (floor number : ℕ) (image : List ℕ) → number ≤ floor → IsSafe recovers base accepted floor image → IsSafe recovers base accepted number image
lower recovers base accepted floor number image le s = record {
  some = s.some;
  each = λ q r. let f = s.each q r in record { enough = omega (arith, le, f.enough); no_more = f.no_more; plant = f.plant };
  lists = s.lists;
}

-- what is safe at the last of the moments that were seen is so at each later one
outlasting : (honest : Type 0) (recovers : List ℕ → Condensed → Type 0) (base : Condensed) (first : DeviceState) (seen : List RecordedMoment) (count : ℕ)
    → count ≤ (now_of base first seen).floor
    → (moments : List RecordedMoment) → IsPrefix seen moments → AreMoments honest recovers base first moments → honest
    → (image : List ℕ) → IsImage (device_at (now_of base first moments)) image
    → ∥ IsPrefix (now_of base first seen).accepted (now_of base first moments).accepted × IsSafe recovers base (now_of base first moments).accepted count image ∥₁
outlasting honest recovers base first seen count le moments p are h image of =
    let safe = IsSafeMoment recovers base in
    let start = opening_moment base first in
    let last = now_of base first moments in
    ∥∥₁_map (are h) (λ a.
    let leads : FollowOn safe start (seen ++ p.0) = subst (λ (l : List RecordedMoment). FollowOn safe start l) (sym p.1) a.leads in
    let stays : (now_of base first seen).floor ≤ last.floor =
    subst (λ (l : List RecordedMoment). (now_of base first seen).floor ≤ (now_of base first l).floor) p.1 (told_stays safe start seen p.0 leads) in
    let grown : IsPrefix (now_of base first seen).accepted last.accepted =
    subst (λ (l : List RecordedMoment). IsPrefix (now_of base first seen).accepted (now_of base first l).accepted) p.1 (told_grows safe start seen p.0 leads) in (
      grown,
      lower recovers base last.accepted last.floor count image (omega (arith, le, stays)) (last_safe safe start moments a.opened a.leads image of),
    ))

-- one moment more
pub goes_on : (honest : Type 0) (recovers : List ℕ → Condensed → Type 0) (base : Condensed) (first : DeviceState) (moments : List RecordedMoment) (next : RecordedMoment)
    → AreMoments honest recovers base first moments → (honest → ∥ IsNextMoment (now_of base first moments) next ∥₁) → (honest → ∥ IsSafeMoment recovers base next ∥₁)
    → AreMoments honest recovers base first (moments ++ next ∷ [])
goes_on honest recovers base first moments next are follows safe = λ h.
    ∥∥₁_elim (follows h) (hlevel props) (λ f. ∥∥₁_elim (safe h) (hlevel props) (λ s. ∥∥₁_map (are h) (λ a. record { opened = a.opened; leads = leads_on (IsSafeMoment recovers base) (opening_moment base first) moments next a.leads f s })))

pub last_is : (m : RecordedMoment) (moments : List RecordedMoment) (next : RecordedMoment) → last_of m (moments ++ next ∷ []) ≡ next
last_is m [] next = refl
last_is m (n ∷ moments) next = last_is n moments next

-- one call of the device was made
pub by_call : (m : RecordedMoment) (d e : DeviceState) (accepted : List Action) (floor : ℕ) → m ≡ moment_of d accepted floor → IsCall d e → IsNextMoment m (moment_of e accepted floor)
by_call m d e accepted floor is call = inl ((d, e, (ap (λ x. x.bytes) is, ap (λ x. x.pending) is, ap (λ x. x.faulted) is), (refl, refl, refl), call), sym (ap (λ x. x.accepted) is), sym (ap (λ x. x.floor) is))

-- none was made: more may have been accepted, and the floor raised
pub by_none : (m : RecordedMoment) (d e : DeviceState) (accepted more : List Action) (floor higher : ℕ) → m ≡ moment_of d accepted floor → e ≡ d → IsPrefix accepted more → floor ≤ higher → IsNextMoment m (moment_of e more higher)
by_none m d e accepted more floor higher is same prefix le =
    inr (
      ap (λ x. x.bytes) same ∙ sym (ap (λ x. x.bytes) is),
      ap (λ x. first_values (length x.bytes) x.pending) same ∙ sym (ap (λ x. x.pending) is),
      ap (λ x. x.faulted) same ∙ sym (ap (λ x. x.faulted) is),
      subst (λ (l : List Action). IsPrefix l more) (sym (ap (λ x. x.accepted) is)) prefix,
      omega (arith, ap (λ x. x.floor) is, le),
    )

-- what a store says of its images, of a run that is named after it
pub stands_safe : (recovers kept : List ℕ → Condensed → Type 0)
    → ((b : List ℕ) (p q : Condensed) → kept b p → kept b q → p ≡ q)
    → ((b : List ℕ) (p : Condensed) → AreBytes b → kept b p → KeepsRules p)
    → ∥ ((b : List ℕ) (p : Condensed) → (recovers b p ↔ kept b p)) ∥₁
    → (base : Condensed) (accepted : List Action) (floor : ℕ) (d : DeviceState) (stored next : Condensed)
    → ∥ IsPrefixPlant base accepted floor stored ∥₁ → ∥ IsPrefixPlant base accepted floor next ∥₁
    → ((image : List ℕ) → IsImage d image → ∥ kept image stored ⊎ kept image next ∥₁)
    → ∥ IsSafeMoment recovers base (moment_of d accepted floor) ∥₁
stands_safe recovers kept one rules same base accepted floor d stored next old new stands =
    ∥∥₁_elim same (hlevel props) (λ s. ∥∥₁_elim old (hlevel props) (λ o. ∥∥₁_map new (λ n image of.
    let i = image_of d accepted floor image of in
    safe_by recovers base accepted floor stored next image i.bytes o n
    (∥∥₁_map (stands image i) (⊎_elim (λ r. inl ((s image stored).1 r)) (λ r. inr ((s image next).1 r))))
    (λ b p q x y. one b p q ((s b p).0 x) ((s b q).0 y))
    (λ b p bytes r. rules b p bytes ((s b p).0 r)))))

-- before anything is accepted
pub first_prefix : (base q : Condensed) → base ≡ q → ∥ IsPrefixPlant base [] base.panel.count q ∥₁
first_prefix base q is = ∣ subst (λ (p : Condensed). IsPrefixPlant base [] base.panel.count p) is (prefix_is base [] base.panel.count [] [] refl (omega arith)) ∣₁

pub opened : (honest : Type 0) (recovers : List ℕ → Condensed → Type 0) (base : Condensed) (first : DeviceState) → (honest → ∥ IsSafeMoment recovers base (opening_moment base first) ∥₁) → AreMoments honest recovers base first []
opened honest recovers base first safe = λ h. ∥∥₁_map (safe h) (λ s. record { opened = s; leads = tt })

-- of a run that is named after an idle store
pub named_opened : (honest own : Type 0) (recovers kept : List ℕ → Condensed → Type 0)
    → ((b : List ℕ) (p q : Condensed) → kept b p → kept b q → p ≡ q)
    → ((b : List ℕ) (p : Condensed) → AreBytes b → kept b p → KeepsRules p)
    → ∥ ((b : List ℕ) (p : Condensed) → (recovers b p ↔ kept b p)) ∥₁
    → ∥ (honest ↔ own) ∥₁ → (base stored next : Condensed) (first device : DeviceState)
    → base ≡ stored → next ≡ stored → first ≡ device
    → (own → (image : List ℕ) → IsImage device image → ∥ kept image stored ⊎ kept image next ∥₁)
    → AreMoments honest recovers base first []
named_opened honest own recovers kept one rules same both base stored next first device is idle at stands =
    opened honest recovers base first (λ h. ∥∥₁_elim both (hlevel props) (λ s.
    stands_safe recovers kept one rules same base [] base.panel.count first stored next
    (first_prefix base stored is) (first_prefix base next (is ∙ sym idle))
    (subst (λ (d : DeviceState). (image : List ℕ) → IsImage d image → ∥ kept image stored ⊎ kept image next ∥₁) (sym at) (stands (s.0 h)))))

-- a plant that a prefix of all makes, and that reaches a list: the list and more after it make it
contains : (base plant : Condensed) (list all : List Action) → IsPrefix list all → IsPrefixPlant base all (base.panel.count + length list) plant
    → (more : List Action) × (plant ≡ run base (list ++ more)) × IsPrefix (list ++ more) all
contains base plant list all prefix f =
    let n = plant.panel.count - base.panel.count in
    let rest = n - length list in
    let long : n ≡ length list + rest = omega (arith, f.enough) in
    let taken : take n all ≡ list ++ take rest prefix.0 =
    ap (λ (l : List Action). take n l) (sym prefix.1) ∙ (ap (λ k. take k (list ++ prefix.0)) long ∙ take-append-add list prefix.0 rest) in (
      take rest prefix.0,
      f.plant ∙ ap (λ (l : List Action). run base l) taken,
      (drop rest prefix.0, append_assoc list (take rest prefix.0) (drop rest prefix.0) ∙ (ap (λ l. list ++ l) (take-append-drop rest prefix.0) ∙ prefix.1)),
    )

-- the law: what is held at moments is stored at each later one
pub stays : (honest : Type 0) (recovers : List ℕ → Condensed → Type 0) (base : Condensed) (first : DeviceState) (seen : List RecordedMoment) (list : List Action)
    → AreHeld base first seen list → StaysStored honest recovers base first seen list
stays honest recovers base first seen list held = λ moments p are h image of.
    let last = now_of base first moments in
    let safe = outlasting honest recovers base first seen (base.panel.count + length list) held.0 moments p are h image of in (
      ∥∥₁_elim safe (hlevel props) (λ s. s.1.some),
      λ plant is. ∥∥₁_elim safe (hlevel props) (λ s. ∥∥₁_map held.1 (λ w.
          contains base plant list last.accepted (prefix_trans list (now_of base first seen).accepted last.accepted w s.0) (s.1.each plant is))),
    )
