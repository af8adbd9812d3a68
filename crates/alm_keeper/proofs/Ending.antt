-- The end of an open checkpoint: all of its run went out.
use Rattle.std.proofs.Common.{◌≡◌, ℕ, ◌+◌, ◌≤◌, Bool, true, false, List, [], ◌∷◌, ◌++◌, length, take, drop, refl, sym, ◌∙◌, ap, subst, arith, append_assoc, length-append}
use Rattle.std.proofs.lemmas.Bool.{or_parts, eqb-true}
use Rattle.std.proofs.lemmas.List.{append-nil, ext_get_or, take_at}
use Rattle.alm_codec.specs.Versions.{is_open, closed_gate, newer}
use Rattle.alm_model.specs.Plant.{Condensed}
use Rattle.alm_codec.specs.Image.{image_text}
use Rattle.alm_disk.specs.Device.{DeviceState}
use Rattle.alm_disk.specs.Device.{IsImage as IsLeft}
use Rattle.alm_checkpoint.specs.Layouts.{layout_byte, is_half_open, part, half_at, half_len, other}
use Rattle.alm_checkpoint.specs.Headers.{half_head_text}
use Rattle.alm_checkpoint.specs.Cut.{Cut, Stores, Reaches, head_before, half_text, front, turned_with, side_front, side_back}
use Rattle.alm_checkpoint.specs.Cut.{device_of}
use Rattle.alm_checkpoint.proofs.Pieces.{part_is}
use Rattle.alm_keeper.specs.Stand.{Account, account_of, Ready, end_of_half, other_at}
use Rattle.alm_keeper.specs.Resting.{RestsBut, Blind, Guarded, Kept}
use Rattle.alm_keeper.specs.declared.stage.Stage.TheVariants.{BodySync}
use Rattle.alm_keeper.specs.Piecewise.{Copy, since_text, open_text, run_text, IsCopy, is_sent, Paused, turned_by}
use Rattle.alm_checkpoint.proofs.Grown.{gate_at}
use Rattle.alm_checkpoint.proofs.Turned.{turns_with, stores_turned_with}
use Rattle.alm_keeper.proofs.Gates.{closed_shut}
use Rattle.alm_keeper.proofs.Sides.{regroup, regroup_half}
use Rattle.alm_keeper.proofs.Piecewise.{there, ahead_long, ready_with, left_long, here, front_is, room_long}
use Rattle.alm_keeper.proofs.Sending.{run_long, run_fits}
use Rattle.alm_keeper.specs.Trail.{asked_in}

abbrev pub none : ℕ → Bool
none place = false

pub blind_none : (P : List ℕ → Type 0) → Blind none P
blind_none P b c is beside = subst P (sym (ext_get_or 0 c b beside.size (λ i _. beside.same i refl))) is

at_body : (a b d : List ℕ) (g : ℕ) → (a ++ g ∷ []) ++ b ++ d ≡ a ++ (g ∷ b) ++ d
at_body a b d g = simp append_assoc

module _ (c : Cut) (plant : Condensed) (gate : ℕ) (tail : List ℕ) (stores : Stores c plant) (closed : is_open c.version gate ≡ false) (reaches : Reaches c (gate ∷ tail)) (k : Copy) (copy : IsCopy (account_of c plant) k)
    (within : length (run_text (account_of c plant) k) + 1 ≤ half_len c.layout) where
  abbrev run : List ℕ
  run = run_text (account_of c plant) k

  abbrev n : ℕ
  n = length run

  abbrev ahead : List ℕ
  ahead = side_front c c.half (gate ∷ tail)

  abbrev left : List ℕ
  left = drop n (drop 1 c.other)

  abbrev rear : List ℕ
  rear = side_back c c.half (gate ∷ tail)

  left_is : 1 + (n + length left) ≡ half_len c.layout
  left_is = left_long c plant gate tail stores closed reaches n within copy.shut

  abbrev turned_cut : Cut
  turned_cut = turned_with c k.base k.since (gate ∷ tail)

  abbrev next : ℕ
  next = closed_gate (newer c.version)

  turned_stores : Stores turned_cut plant
  turned_stores = stores_turned_with c plant k.base k.since (gate ∷ tail) stores reaches copy.more copy.image copy.sizes copy.count copy.frames copy.admitted copy.runs

  turned_reaches : Reaches turned_cut (next ∷ left)
  turned_reaches = omega (arith, left_is, run_long (account_of c plant) k copy)

  -- the other half with an open gate
  turned_ready : Ready (turned_by (account_of c plant) k) (ahead ++ (165 ∷ run) ++ (left ++ rear))
  turned_ready = record {
    cut = turned_cut;
    is = λ i. record { layout = c.layout; half = other c.half; other_open = true; version = newer c.version; epoch = c.epoch + 1; gate = place i; plant = plant; trail = asked_in k.since };
    stores = turned_stores;
    gate = next;
    closed = closed_shut (newer c.version);
    tail = left;
    reaches = turned_reaches;
    text = regroup_half 165 next ahead (half_head_text c.layout (other c.half) (head_before (newer c.version) (c.epoch + 1) k.base)) (image_text k.base) (since_text (account_of c plant) k) left rear
        ∙ sym (there c plant gate tail stores closed reaches (half_text c.layout (other c.half) (newer c.version) (c.epoch + 1) k.base k.since ++ (next ∷ left)))
        ∙ turns_with c k.base k.since (gate ∷ tail) (next ∷ left);
  }
    where
      place : half_at c.layout (other c.half) + 1 + length (open_text (account_of c plant) k) ≡ length (front turned_cut)
      place = omega (arith, gate_at turned_cut plant (next ∷ left) turned_stores turned_reaches, left_is, length-append (open_text (account_of c plant) k) (next ∷ []))

  held : (g : ℕ) → is_half_open g ≡ false → (mid : List ℕ) → length mid ≡ n → Ready (account_of c plant) (ahead ++ (g ∷ mid) ++ (left ++ rear))
  held g shut mid long = subst (Ready (account_of c plant)) (sym (regroup ahead mid left rear g))
      (ready_with c plant gate tail stores closed reaches copy.shut (g ∷ (mid ++ left)) (omega (arith, long, left_is, length-append mid left)) shut)

  pub guarded : Guarded none (Ready (account_of c plant)) (Ready (turned_by (account_of c plant) k)) (half_at c.layout (other c.half)) run
  guarded = record {
    opens = is_half_open;
    written = refl;
    front = ahead;
    room = run;
    back = left ++ rear;
    place = sym (ahead_long c plant gate tail stores closed reaches);
    fits = refl;
    closed = held;
    whole = λ own opened. subst (λ (g : ℕ). Ready (turned_by (account_of c plant) k) (ahead ++ (g ∷ run) ++ (left ++ rear))) (sym (eqb-true own 165 opened)) turned_ready;
    blind_before = blind_none (Ready (account_of c plant));
    blind_after = blind_none (Ready (turned_by (account_of c plant) k));
  }

  pub ending : (state : DeviceState) (b : List ℕ) → b ≡ device_of c (gate ∷ tail) → ((x : List ℕ) → IsLeft state x → Ready (account_of c plant) x) → RestsBut (is_sent (account_of c plant) n) state b → part (half_at c.layout (other c.half) + 1) n b ≡ run
      → Kept none (Ready (account_of c plant)) (Ready (turned_by (account_of c plant) k)) BodySync state (half_at c.layout (other c.half)) run
  unfolding guarded
  ending state b is images rests wrote =
      let g = layout_byte c.other 0 in
      let text : b ≡ (ahead ++ g ∷ []) ++ take n (drop 1 c.other) ++ (left ++ rear) = is ∙ here c plant gate tail stores closed reaches n within copy.shut in
      let room_is : take n (drop 1 c.other) ≡ run =
      sym (part_is (half_at c.layout (other c.half) + 1) n (ahead ++ g ∷ []) (take n (drop 1 c.other)) (left ++ rear) b (sym (front_is c plant gate tail stores closed reaches n within copy.shut)) (room_long c plant gate tail stores closed reaches n within copy.shut)
      (text ∙ append_assoc (ahead ++ g ∷ []) (take n (drop 1 c.other)) (left ++ rear))) ∙ wrote in
      let shown : b ≡ ahead ++ (g ∷ run) ++ (left ++ rear) = text ∙ ap (λ (m : List ℕ). (ahead ++ g ∷ []) ++ m ++ (left ++ rear)) room_is ∙ at_body ahead run (left ++ rear) g in
      record {
        images = images;
        stands = (
          guarded,
          g,
          copy.shut,
          record { reads = rests.reads ∙ shown; within = λ i out. rests.within i (or_parts (is_sent (account_of c plant) n i) false out).0; sound = rests.sound },
        );
      }

-- all of the run went out: it awaits its sync, and then the gate's
pub ends : (a : Account) (k : Copy) (state : DeviceState) → IsCopy a k → a.gate + 1 ≤ end_of_half a → Paused a (record k { out = length (run_text a k) }) state
    → Kept none (Ready a) (Ready (turned_by a k)) BodySync state (other_at a) (run_text a k)
ends a k state copy gate p = go r.cut r.is
  where
    r : Ready a p.bytes
    r = p.ready

    go : (x : Cut) → a ≡ account_of r.cut a.plant → Kept none (Ready a) (Ready (turned_by a k)) BodySync state (other_at a) (run_text a k)
    go x is = subst (λ (y : Account). Kept none (Ready y) (Ready (turned_by y k)) BodySync state (other_at y) (run_text y k)) (sym is)
        (ending r.cut a.plant r.gate r.tail r.stores r.closed r.reaches k (subst (λ (y : Account). IsCopy y k) is copy) (subst (λ (y : Account). length (run_text y k) + 1 ≤ half_len y.layout) is (run_fits a k copy gate)) state p.bytes r.text
        (subst (λ (y : Account). (x : List ℕ) → IsLeft state x → Ready y x) is p.images) (subst (λ (y : Account). RestsBut (is_sent y (length (run_text y k))) state p.bytes) is p.rests)
        (subst (λ (y : Account). part (other_at y + 1) (length (run_text y k)) p.bytes ≡ run_text y k) is wrote))
      where
        whole : take (length (run_text a k)) (run_text a k) ≡ run_text a k
        whole = ap (take (length (run_text a k))) (sym (append-nil (run_text a k))) ∙ take_at (run_text a k) [] (length (run_text a k)) refl

        wrote : part (other_at a + 1) (length (run_text a k)) p.bytes ≡ run_text a k
        wrote = (λ i. part (other_at a + 1) (length (sym whole i)) (sym p.rests.reads i)) ∙ p.wrote ∙ whole
