-- A checkpoint that goes out in pieces between commits, on the device.
use Rattle.std.proofs.Common.{◌≡◌, inl, ℕ, ◌+◌, ◌≤◌, false, List, [], ◌∷◌, ◌++◌, length, take, drop, refl, sym, ◌∙◌, ap, subst, arith, append_assoc, length-append, length-drop, take-append-drop}
use Rattle.std.proofs.lemmas.List.{length-take-le}
use Rattle.alm_model.specs.Plant.{Condensed}
use Rattle.alm_disk.specs.Device.{is_within}
use Rattle.alm_disk.specs.Device.{byte_at as byte_of}
use Rattle.alm_disk.proofs.Images.{middle}
use Rattle.alm_codec.specs.Versions.{is_open}
use Rattle.alm_checkpoint.specs.Layouts.{layout_byte, is_half_open, half_at, half_len, other}
use Rattle.alm_checkpoint.specs.Cut.{Cut, Stores, Reaches, front, with_other, side_front, side_back}
use Rattle.alm_checkpoint.specs.Cut.{device_of}
use Rattle.alm_keeper.specs.Stand.{Account, account_of, Ready}
use Rattle.alm_keeper.specs.Resting.{IsBeside, Blind}
use Rattle.alm_keeper.specs.Piecewise.{is_sent}
use Rattle.alm_checkpoint.proofs.Grown.{gate_at}
use Rattle.alm_checkpoint.proofs.Turned.{shut_beside, stores_other, beside}
use Rattle.alm_keeper.proofs.Sides.{side_long, by_gate}
use Rattle.alm_keeper.specs.Trail.{asked_in}

-- ---- the other half among the bytes

module _ (c : Cut) (plant : Condensed) (gate : ℕ) (tail : List ℕ) (stores : Stores c plant) (closed : is_open c.version gate ≡ false) (reaches : Reaches c (gate ∷ tail)) where
  abbrev ahead : List ℕ
  ahead = side_front c c.half (gate ∷ tail)

  abbrev rear : List ℕ
  rear = side_back c c.half (gate ∷ tail)

  pub there : (o : List ℕ) → device_of (with_other c o) (gate ∷ tail) ≡ ahead ++ o ++ rear
  there o = beside c.layout c.half c.version c.epoch c.base c.frames c.other o c.rest (gate ∷ tail)

  pub ahead_long : length ahead ≡ half_at c.layout (other c.half)
  ahead_long = side_long c plant (gate ∷ tail) stores reaches c.half refl

  -- any other half after its closed gate
  pub ready_with : is_half_open (layout_byte c.other 0) ≡ false → (o : List ℕ) → length o ≡ half_len c.layout → is_half_open (layout_byte o 0) ≡ false → Ready (account_of c plant) (ahead ++ o ++ rear)
  ready_with old o long shut =
      let kept : Stores (with_other c o) plant = stores_other c plant o stores long (record { older = inl shut; whole = shut_beside c.layout (other c.half) o shut }) in
      let place : length (front c) ≡ length (front (with_other c o)) = omega (arith, gate_at c plant (gate ∷ tail) stores reaches, gate_at (with_other c o) plant (gate ∷ tail) kept reaches) in
      record {
        cut = with_other c o;
        is = λ i. record { layout = c.layout; half = c.half; other_open = (old ∙ sym shut) i; version = c.version; epoch = c.epoch; gate = place i; plant = plant; trail = asked_in c.frames };
        stores = kept;
        gate = gate;
        closed = closed;
        tail = tail;
        reaches = reaches;
        text = sym (there o);
      }

  -- the same with the bytes after that gate set apart
  module _ (n : ℕ) (within : n + 1 ≤ half_len c.layout) (shut : is_half_open (layout_byte c.other 0) ≡ false) where
    abbrev room : List ℕ
    room = take n (drop 1 c.other)

    abbrev left : List ℕ
    left = drop n (drop 1 c.other)

    pub room_long : length room ≡ n
    room_long = length-take-le n (drop 1 c.other) (omega (arith, stores.size, within, length-drop 1 c.other))

    pub left_long : 1 + (n + length left) ≡ half_len c.layout
    left_long = omega (arith, stores.size, within, length-drop 1 c.other, length-drop n (drop 1 c.other))

    pub other_is : c.other ≡ layout_byte c.other 0 ∷ (room ++ left)
    other_is = by_gate c.other (omega (arith, stores.size, within)) ∙ ap (λ (t : List ℕ). layout_byte c.other 0 ∷ t) (sym (take-append-drop n (drop 1 c.other)))

    apart : (f m l b : List ℕ) (g : ℕ) → (f ++ g ∷ []) ++ m ++ (l ++ b) ≡ f ++ (g ∷ (m ++ l)) ++ b
    apart f m l b g = simp append_assoc

    pub here : device_of c (gate ∷ tail) ≡ (ahead ++ layout_byte c.other 0 ∷ []) ++ room ++ (left ++ rear)
    here = there c.other ∙ ap (λ (o : List ℕ). ahead ++ o ++ rear) other_is ∙ sym (apart ahead room left rear (layout_byte c.other 0))

    pub front_is : half_at c.layout (other c.half) + 1 ≡ length (ahead ++ layout_byte c.other 0 ∷ [])
    front_is = omega (arith, ahead_long, length-append ahead (layout_byte c.other 0 ∷ []))

    pub ready_mid : (mid : List ℕ) → length mid ≡ n → Ready (account_of c plant) ((ahead ++ layout_byte c.other 0 ∷ []) ++ mid ++ (left ++ rear))
    ready_mid mid long = subst (Ready (account_of c plant)) (sym (apart ahead mid left rear (layout_byte c.other 0)))
        (ready_with shut (layout_byte c.other 0 ∷ (mid ++ left)) (omega (arith, long, left_long, length-append mid left)) shut)

    -- what is known of the device doesn't depend on them
    pub blind : (b : List ℕ) → IsBeside (is_within (half_at c.layout (other c.half) + 1) n) (device_of c (gate ∷ tail)) b → Ready (account_of c plant) b
    blind b beside =
        let at = ahead ++ layout_byte c.other 0 ∷ [] in
        let found = middle at room (left ++ rear) b (beside.size ∙ ap length here)
        (λ place out. beside.same place ((λ i. is_within (front_is i) (sym room_long i) place) ∙ out) ∙ ap (λ (l : List ℕ). byte_of l place) here) in
        subst (Ready (account_of c plant)) (sym found.2) (ready_mid found.0 (found.1 ∙ room_long))

-- the places after the other half's closed gate
pub ready_blind : (a : Account) (n : ℕ) → a.other_open ≡ false → n + 1 ≤ half_len a.layout → Blind (is_sent a n) (Ready a)
ready_blind a n shut within b c r beside =
    let shut_here : is_half_open (layout_byte r.cut.other 0) ≡ false = ap (λ (y : Account). y.other_open) (sym r.is) ∙ shut in
    subst (λ (y : Account). Ready y c) (sym r.is)
    (blind r.cut a.plant r.gate r.tail r.stores r.closed r.reaches n (subst (λ (y : Account). n + 1 ≤ half_len y.layout) r.is within) shut_here c
    (subst (λ (x : List ℕ). IsBeside (is_sent (account_of r.cut a.plant) n) x c) r.text (subst (λ (y : Account). IsBeside (is_sent y n) b c) r.is beside)))
