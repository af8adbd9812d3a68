-- A commit between the pieces of an open checkpoint.
use Rattle.std.proofs.Common.{◌≡◌, inl, inr, ◌⊎◌, ℕ, ◌+◌, ◌*◌, ◌≤◌, false, nat_lt, nat_le, List, [], ◌∷◌, ◌++◌, length, take, drop, refl, sym, ◌∙◌, ap, subst, arith, length-append}
use Rattle.std.proofs.lemmas.Bool.{and_parts, leb-true, ltb-true, cases_Bool}
use Rattle.std.proofs.lemmas.List.{ext_get_or}
use Rattle.alm_codec.specs.declared.asked.Asked.{Asked}
use Rattle.alm_model.specs.Plant.{Condensed}
use Rattle.alm_model.specs.Rules.{AreAdmitted}
use Rattle.alm_codec.specs.Frames.{IsFrame, asked_actions, frame_body}
use Rattle.alm_disk.specs.Device.{DeviceState, is_within}
use Rattle.alm_disk.specs.Device.{IsImage as IsLeft}
use Rattle.alm_codec.specs.Versions.{closed_gate, is_open, newer}
use Rattle.alm_checkpoint.specs.Layouts.{half_len}
use Rattle.alm_checkpoint.specs.Cut.{Cut, Stores, Reaches, front, back}
use Rattle.alm_checkpoint.specs.Cut.{device_of}
use Rattle.alm_keeper.specs.Stand.{Account, account_of, Ready, end_of_half, other_at, TakesAsked, with_commit}
use Rattle.alm_keeper.proofs.Gates.{written_open}
use Rattle.alm_keeper.specs.Resting.{RestsBut, Blind, Guarded, Kept}
use Rattle.alm_keeper.specs.declared.stage.Stage.TheVariants.{Body}
use Rattle.alm_keeper.specs.Piecewise.{Copy, open_text, IsCopy, is_sent, Paused}
use Rattle.alm_keeper.proofs.Commit.{n, room_long, left_long, parts, ready, body_long}
use Rattle.alm_keeper.proofs.Sides.{regroup}
use Rattle.alm_keeper.proofs.Piecewise.{ready_blind}
use Rattle.alm_keeper.proofs.Sending.{run_fits}

-- no place is loose, or those after the other half's closed gate
abbrev pub Loosely : Account → ℕ → Type 0
Loosely a n = (n ≡ 0) ⊎ ((a.other_open ≡ false) × (n + 1 ≤ half_len a.layout))

pub no_place : (at n place : ℕ) → n ≡ 0 → is_within at n place ≡ false
no_place at n place is = elim (cases_Bool (is_within at n place)) [
  | inl within ↦ let p = and_parts (nat_le at place) (nat_lt place (at + n)) within in absurd (omega (arith, leb-true at place p.0, ltb-true place (at + n) p.1, is))
  | inr out ↦ out
]

pub loose_blind : (a : Account) (n : ℕ) → Loosely a n → Blind (is_sent a n) (Ready a)
loose_blind a n (inl zero) b c is beside = subst (Ready a) (sym (ext_get_or 0 c b beside.size (λ i _. beside.same i (no_place (other_at a + 1) n i zero)))) is
loose_blind a n (inr x) b c is beside = ready_blind a n x.0 x.1 b c is beside

module _ (c : Cut) (plant : Condensed) (actions : List Asked) (gate : ℕ) (tail : List ℕ) (stores : Stores c plant) (frame : IsFrame c.version c.epoch (plant.panel.count + 1) actions) (admitted : AreAdmitted plant (asked_actions actions))
    (closed : is_open c.version gate ≡ false) (reaches : Reaches c (gate ∷ tail)) (takes : TakesAsked (account_of c plant) actions) where
  abbrev size : ℕ
  size = 19 + 16 * length actions

  held : (g : ℕ) → is_open c.version g ≡ false → (left : List ℕ) → length left ≡ length (take size tail) → Ready (account_of c plant) (front c ++ (g ∷ left) ++ (drop size tail ++ back c))
  held g shut left long = record {
    cut = c;
    is = refl;
    stores = stores;
    gate = g;
    closed = shut;
    tail = left ++ drop size tail;
    reaches = omega (
      arith,
      reaches,
      length-append left (drop size tail),
      long,
      room_long c plant actions gate tail stores frame admitted closed reaches takes,
      left_long c plant actions gate tail stores frame admitted closed reaches takes,
    );
    text = regroup (front c) left (drop size tail) (back c) g;
  }

  pub guarded : (loose : ℕ) → Loosely (account_of c plant) loose
      → Guarded (is_sent (account_of c plant) loose) (Ready (account_of c plant)) (Ready (with_commit (account_of c plant) actions)) (length (front c)) (frame_body c.version c.epoch (plant.panel.count + 1) actions)
  guarded loose is = record {
    opens = is_open c.version;
    written = written_open c.version;
    front = front c;
    room = take size tail;
    back = drop size tail ++ back c;
    place = refl;
    fits = room_long c plant actions gate tail stores frame admitted closed reaches takes ∙ sym (body_long c.version c.epoch (plant.panel.count + 1) actions);
    closed = held;
    whole = ready c plant actions gate tail stores frame admitted closed reaches takes;
    blind_before = loose_blind (account_of c plant) loose is;
    blind_after = loose_blind (with_commit (account_of c plant) actions) loose is;
  }

  pub begun : (loose : ℕ) → Loosely (account_of c plant) loose → (state : DeviceState) (b : List ℕ) → b ≡ device_of c (gate ∷ tail) → ((x : List ℕ) → IsLeft state x → Ready (account_of c plant) x) → RestsBut (is_sent (account_of c plant) loose) state b
      → Kept (is_sent (account_of c plant) loose) (Ready (account_of c plant)) (Ready (with_commit (account_of c plant) actions)) Body state (length (front c)) (frame_body c.version c.epoch (plant.panel.count + 1) actions)
  unfolding guarded
  begun loose is state b shown images rests =
      let here : b ≡ front c ++ (gate ∷ take size tail) ++ (drop size tail ++ back c) =
      shown ∙ ap (λ (t : List ℕ). front c ++ (gate ∷ t) ++ back c) (sym (parts c plant actions gate tail stores frame admitted closed reaches takes)) ∙ sym (regroup (front c) (take size tail) (drop size tail) (back c) gate) in
      record { images = images; stands = (guarded loose is, gate, closed, subst (RestsBut (is_sent (account_of c plant) loose) state) here rests) }

-- a commit is begun, with or without an open checkpoint
pub begins : (a : Account) (actions : List Asked) (loose : ℕ) (state : DeviceState) (b : List ℕ) → Loosely a loose → IsFrame a.version a.epoch (a.plant.panel.count + 1) actions → AreAdmitted a.plant (asked_actions actions) → TakesAsked a actions
    → ((x : List ℕ) → IsLeft state x → Ready a x) → Ready a b → RestsBut (is_sent a loose) state b
    → Kept (is_sent a loose) (Ready a) (Ready (with_commit a actions)) Body state a.gate (frame_body a.version a.epoch (a.plant.panel.count + 1) actions)
begins a actions loose state b is frame admitted takes images r rests =
    subst (λ (y : Account). Kept (is_sent y loose) (Ready y) (Ready (with_commit y actions)) Body state y.gate (frame_body y.version y.epoch (y.plant.panel.count + 1) actions)) (sym r.is)
    (begun r.cut a.plant actions r.gate r.tail r.stores (subst (λ (y : Account). IsFrame y.version y.epoch (y.plant.panel.count + 1) actions) r.is frame) admitted r.closed r.reaches (subst (λ (y : Account). TakesAsked y actions) r.is takes)
    loose (subst (λ (y : Account). Loosely y loose) r.is is) state b r.text (subst (λ (y : Account). (x : List ℕ) → IsLeft state x → Ready y x) r.is images) (subst (λ (y : Account). RestsBut (is_sent y loose) state b) r.is rests))

-- in a pause
pub between : (a : Account) (k : Copy) (actions : List Asked) (state : DeviceState) → IsCopy a k → a.gate + 1 ≤ end_of_half a → Paused a k state → IsFrame a.version a.epoch (a.plant.panel.count + 1) actions → AreAdmitted a.plant (asked_actions actions) → TakesAsked a actions
    → Kept (is_sent a k.out) (Ready a) (Ready (with_commit a actions)) Body state a.gate (frame_body a.version a.epoch (a.plant.panel.count + 1) actions)
between a k actions state copy gate p frame admitted takes =
    begins a actions k.out state p.bytes (inr (copy.shut, omega (arith, copy.left, run_fits a k copy gate, length-append (open_text a k) (closed_gate (newer a.version) ∷ [])))) frame admitted takes p.images p.ready p.rests
