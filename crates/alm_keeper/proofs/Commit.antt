-- The bytes of a commit: its frame after the gate of the half that stands.
use Rattle.std.proofs.Common.{◌≡◌, ℕ, ◌+◌, ◌*◌, ◌≤◌, true, false, List, [], ◌∷◌, ◌++◌, length, take, drop, sym, ◌∙◌, ap, arith, append_assoc, length-append, length-drop, take-append-drop}
use Rattle.std.proofs.lemmas.List.{append-nil, length-take-le}
use Rattle.alm_codec.specs.declared.asked.Asked.{Asked}
use Rattle.alm_model.specs.Plant.{Condensed}
use Rattle.alm_model.specs.Step.{run}
use Rattle.alm_model.specs.Rules.{AreAdmitted}
use Rattle.alm_codec.specs.declared.version.Version.{Version}
use Rattle.alm_codec.specs.Frames.{IsFrame, asked_actions, frame_body, frame_text}
use Rattle.alm_codec.specs.Versions.{is_open, closed_gate}
use Rattle.alm_checkpoint.specs.Cut.{Cut, Stores, Reaches, front, back, device_of, with_frame}
use Rattle.alm_checkpoint.proofs.Grown.{pushes, reaches_pushed, stores_pushed, gate_at}
use Rattle.alm_keeper.specs.Trail.{asked_in}
use Rattle.alm_segment.specs.Texts.{Frame}
use Rattle.alm_keeper.specs.Stand.{HoldsPlant, SaysIt, Account, account_of, Ready, TakesAsked, with_commit}
use Rattle.alm_keeper.proofs.Devices.{frame_long}
use Rattle.alm_keeper.proofs.Gates.{closed_shut}

regroup : (f m l b : List ℕ) (g : ℕ) → f ++ (g ∷ m) ++ (l ++ b) ≡ f ++ (g ∷ (m ++ l)) ++ b
regroup f m l b g = simp append_assoc

regroup_body : (g z : ℕ) (f t l b : List ℕ) → f ++ (g ∷ (t ++ z ∷ [])) ++ (l ++ b) ≡ f ++ (g ∷ t ++ (z ∷ l)) ++ b
regroup_body g z f t l b = simp append_assoc

pub asked_pushed : (frames : List Frame) (f : Frame) → asked_in (frames ++ f ∷ []) ≡ asked_in frames ++ f.asked
asked_pushed [] f = append-nil f.asked
asked_pushed (g ∷ frames) f = ap (λ (l : List Asked). g.asked ++ l) (asked_pushed frames f) ∙ sym (append_assoc g.asked (asked_in frames) f.asked)

-- what is held, by the account
pub ready_holds : (a : Account) (b : List ℕ) → Ready a b → HoldsPlant a.epoch a.plant b
ready_holds a b r = record { cut = r.cut; in_epoch = sym (ap (λ (x : Account). x.epoch) r.is); stores = r.stores; gate = r.gate; closed = r.closed; tail = r.tail; reaches = r.reaches; text = r.text }

pub ready_says : (a : Account) (b : List ℕ) → Ready a b → SaysIt a b
unfolding ready_holds
ready_says a b r = (ready_holds a b r, ap (λ (x : Account). x.trail) r.is)

pub body_long : (v : Version) (e n : ℕ) (actions : List Asked) → length (frame_body v e n actions) ≡ 19 + 16 * length actions
body_long v e n actions = omega (arith, frame_long v e n actions, length-append (frame_text v e n actions) (closed_gate v ∷ []))

module _ (c : Cut) (plant : Condensed) (actions : List Asked) (gate : ℕ) (tail : List ℕ) (stores : Stores c plant) (frame : IsFrame c.version c.epoch (plant.panel.count + 1) actions) (admitted : AreAdmitted plant (asked_actions actions))
    (closed : is_open c.version gate ≡ false) (reaches : Reaches c (gate ∷ tail)) (takes : TakesAsked (account_of c plant) actions) where
  abbrev pub n : ℕ
  n = 19 + 16 * length actions

  abbrev pub text : List ℕ
  text = frame_body c.version c.epoch (plant.panel.count + 1) actions

  pub fits : n ≤ length tail
  fits = omega (arith, takes.0, gate_at c plant (gate ∷ tail) stores reaches)

  pub room_long : length (take n tail) ≡ n
  room_long = length-take-le n tail fits

  pub parts : take n tail ++ drop n tail ≡ tail
  parts = take-append-drop n tail

  pub left_long : length (drop n tail) + n ≡ length tail
  left_long = omega (arith, fits, length-drop n tail)

  abbrev t : List ℕ
  t = frame_text c.version c.epoch (plant.panel.count + 1) actions

  -- with any open gate
  module _ (own : ℕ) (opened : is_open c.version own ≡ true) where
    abbrev pub grown_cut : Cut
    grown_cut = with_frame c (record { gate = own; asked = actions })

    abbrev pub next : ℕ
    next = closed_gate c.version

    pub grown : Stores grown_cut (run plant (asked_actions actions))
    grown = stores_pushed c plant (record { gate = own; asked = actions }) stores opened frame takes.1 admitted

    pub grown_reaches : Reaches grown_cut (next ∷ drop n tail)
    grown_reaches = reaches_pushed c plant (record { gate = own; asked = actions }) (next ∷ drop n tail) stores (omega (arith, reaches, left_long, length-append (own ∷ t) (next ∷ drop n tail), frame_long c.version c.epoch (plant.panel.count + 1) actions))

    pub grown_text : front c ++ (own ∷ text) ++ (drop n tail ++ back c) ≡ device_of grown_cut (next ∷ drop n tail)
    grown_text = regroup_body own next (front c) t (drop n tail) (back c) ∙ pushes c plant (record { gate = own; asked = actions }) (next ∷ drop n tail) stores

    pub ready : Ready (with_commit (account_of c plant) actions) (front c ++ (own ∷ text) ++ (drop n tail ++ back c))
    ready =
        let place : length (front c) + (19 + 16 * length actions) ≡ length (front grown_cut) =
        omega (arith, gate_at c plant (gate ∷ tail) stores reaches, gate_at grown_cut (run plant (asked_actions actions)) (next ∷ drop n tail) grown grown_reaches, left_long) in
        record {
          cut = grown_cut;
          is = λ i. record (account_of c plant) { gate = place i; plant = run plant (asked_actions actions); trail = sym (asked_pushed c.frames (record { gate = own; asked = actions })) i };
          stores = grown;
          gate = next;
          closed = closed_shut c.version;
          tail = drop n tail;
          reaches = grown_reaches;
          text = grown_text;
        }
