-- What a scanner found in a segment is in it: open frames, and a closed gate after them.
use Rattle.std.proofs.Common.{◌≡◌, ℕ, zero, suc, ◌+◌, ◌-◌, ◌*◌, ◌<◌, ◌≤◌, Bool, true, false, List, [], ◌∷◌, ◌++◌, length, take, drop, Option, Some, None, Result, Ok, Err, refl, sym, ap, subst, ◌∙◌, append_assoc, arith, length-append, length-drop}
use Rattle.std.specs.Prelude.{option_map}
use Rattle.std.specs.List.{AllByRecursion}
use Rattle.std.proofs.lemmas.List.{take-append-drop}
use Rattle.std.proofs.lemmas.List.Elements.{All-from_recursion, All-append, All-nil}
use Rattle.alm_types.specs.declared.action.Action.{Action}
use Rattle.alm_types.specs.declared.refusal.Refusal.{Refusal}
use Rattle.alm_model.specs.Plant.{Condensed}
use Rattle.alm_model.specs.Accept.{refusal}
use Rattle.alm_model.specs.Step.{step, run}
use Rattle.alm_model.specs.Rules.{AreAdmitted}
use Rattle.alm_codec.specs.declared.version.Version.{Version}
use Rattle.alm_codec.specs.Versions.{IsBorne, AreBorne, IsSaid, is_open, sum_text}
use Rattle.alm_codec.specs.declared.asked.Asked.{Asked}
use Rattle.alm_codec.specs.Actions.{asked_at, asked_text}
use Rattle.alm_codec.specs.Frames.{IsAskedAction, asked_actions, frame_head, frame_text, head_at, texts_of}
use Rattle.alm_codec.specs.Reading.{IsBytes}
use Rattle.alm_codec.proofs.Bytes.{IsBytes-drop, IsBytes-take}
use Rattle.alm_codec.proofs.Actions.{asked_takes}
use Rattle.alm_codec.proofs.Numbers.{ok_is, Takes, Takes-then}
use Rattle.alm_codec.proofs.FrameHeads.{Heads, head_takes}
use Rattle.alm_codec.proofs.Frames.{head_then}
use Rattle.alm_segment.specs.Course.{Course, Fails, course}
use Rattle.alm_segment.specs.Folding.{after_replay, unless_refused, stored_in}
use Rattle.alm_segment.specs.Journal.{IsJournal}
use Rattle.alm_segment.specs.Texts.{Frame, frames_text, AreFrames, actions_in}
use Rattle.alm_segment.proofs.Courses.{gives, no_action, no_gate, closed, opens, no_head}
use Rattle.alm_model.proofs.Runs.{run_append, admitted_join}
use Rattle.alm_segment.proofs.Segments.{timely}

abbrev End : Type 0
End = Condensed × ℕ

-- an action without who asked
abbrev alone : Option Asked → Option Action
alone o = option_map (λ (x : Asked). x.action) o

-- the actions of a frame that came
record Several (version : Version) (q : Condensed) (epoch count n : ℕ) (bytes : List ℕ) (end : End) : Type 0 where
  list : List Asked
  after : List ℕ
  number : length list ≡ n
  taken : Takes bytes (texts_of version list) after
  limits : AllByRecursion IsAskedAction list
  borne : AllByRecursion (IsBorne version) (asked_actions list)
  said : AllByRecursion (IsSaid version) list
  admitted : AreAdmitted q (asked_actions list)
  more : after_replay (run q (asked_actions list)) (course version epoch count 0 0 after) ≡ Ok end

not_refused : (o : Option Refusal) (left : ℕ) (more : Result End ℕ) (end : End) → unless_refused o left more ≡ Ok end → (o ≡ None) × (more ≡ Ok end)
not_refused None left more end e = (refl, e)
not_refused (Some why) left more end e = absurd cc

fails_not : (left : ℕ) (end : End) (q : Condensed) (co : Course) → co ≡ Fails left → after_replay q co ≡ Ok end → ⊥
fails_not left end q co e f = let g = sym (ap (after_replay q) e) ∙ f in cc

abbrev Severals : Version → ℕ → Type 0
Severals version n = (q : Condensed) (epoch count : ℕ) (bytes : List ℕ) (end : End) → IsBytes bytes → 16 * n ≤ length bytes → after_replay q (course version epoch count n 0 bytes) ≡ Ok end → Several version q epoch count n bytes end

one : (version : Version) (n : ℕ) → Severals version n → (q : Condensed) (epoch count : ℕ) (bytes : List ℕ) (end : End) (o : Option Asked) → asked_at version (take 16 bytes) ≡ o → IsBytes bytes → 16 * suc n ≤ length bytes → after_replay q (course version epoch count (suc n) 0 bytes) ≡ Ok end
    → Several version q epoch count (suc n) bytes end
one version n again q epoch count bytes end None read fits long e = absurd (fails_not (length bytes) end q _ (no_action version epoch count (suc n) bytes (omega arith) (ap alone read)) e)
one version n again q epoch count bytes end (Some x) read fits long e =
    let a : Action = x.action in
    let before : suc n - 1 ≡ n = omega arith in
    let g = not_refused (refusal q.panel a) (length bytes) (after_replay (step q a) (course version epoch count (suc n - 1) 0 (drop 16 bytes))) end (sym (ap (after_replay q) (gives version epoch count (suc n) bytes a (omega arith) (ap alone read))) ∙ e) in
    let t = asked_takes version (take 16 bytes) x (IsBytes-take 16 bytes fits) read in
    let here : Takes bytes (asked_text version x) (drop 16 bytes) = record { parts = sym (take-append-drop 16 bytes) ∙ ap (λ (w : List ℕ). w ++ drop 16 bytes) t.1; rest_fits = IsBytes-drop 16 bytes fits } in
    let s = again (step q a) epoch count (drop 16 bytes) end (IsBytes-drop 16 bytes fits) (omega (arith, long, length-drop 16 bytes)) (ap (λ (m : ℕ). after_replay (step q a) (course version epoch count m 0 (drop 16 bytes))) (sym before) ∙ g.1) in
    record {
      list = x ∷ s.list;
      after = s.after;
      number = omega (arith, s.number);
      taken = Takes-then bytes (asked_text version x) (drop 16 bytes) (texts_of version s.list) s.after here s.taken;
      limits = (t.0, s.limits);
      borne = (t.2, s.borne);
      said = (t.3, s.said);
      admitted = (timely a t.0, g.0, s.admitted);
      more = s.more;
    }

several : (version : Version) (n : ℕ) → Severals version n
several version zero q epoch count bytes end fits long e = record { list = []; after = bytes; number = refl; taken = record { parts = refl; rest_fits = fits }; limits = tt; borne = tt; said = tt; admitted = tt; more = e }
several version (suc n) q epoch count bytes end fits long e = one version n (several version n) q epoch count bytes end (asked_at version (take 16 bytes)) refl fits long e

-- ---- frames

pub record Found (version : Version) (q : Condensed) (epoch count : ℕ) (bytes : List ℕ) (end : Condensed × ℕ) : Type 0 where
  pub frames : List Frame
  pub gate : ℕ
  pub tail : List ℕ
  pub parts : bytes ≡ frames_text version epoch count frames ++ gate ∷ tail
  pub shut : is_open version gate ≡ false
  pub left : end.1 ≡ 1 + length tail
  pub are_frames : AreFrames version epoch count frames
  pub borne : AreBorne version (actions_in frames)
  pub admitted : AreAdmitted q (actions_in frames)
  pub runs : run q (actions_in frames) ≡ end.0

abbrev ended : Condensed → ℕ → Result End ℕ
ended q left = Ok (q, left)

on_closed : (version : Version) (q : Condensed) (epoch count gate : ℕ) (bytes : List ℕ) (end : End) → is_open version gate ≡ false → after_replay q (course version epoch count 0 0 (gate ∷ bytes)) ≡ Ok end → Found version q epoch count (gate ∷ bytes) end
on_closed version q epoch count gate bytes end shut e =
    let same = ok_is {A = End} (q, suc (length bytes)) end (sym (ap (after_replay q) (closed version epoch count (gate ∷ bytes) (omega arith) shut)) ∙ e) in
    record {
      frames = [];
      gate = gate;
      tail = bytes;
      parts = refl;
      shut = shut;
      left = let l : suc (length bytes) ≡ end.1 = ap (λ (x : End). x.1) same in omega (arith, l);
      are_frames = tt;
      borne = All-nil (IsBorne version);
      admitted = tt;
      runs = ap (λ (x : End). x.0) same;
    }

both_borne : (version : Version) (xs ys : List Action) → AreBorne version xs → AreBorne version ys → AreBorne version (xs ++ ys)
both_borne version xs ys p q = All-append (IsBorne version) xs ys p q

-- a frame, and what is found after it
with_frame : (version : Version) (q : Condensed) (epoch count n own : ℕ) (bytes rest : List ℕ) (end : End) → is_open version own ≡ true → Heads version epoch count bytes (n, rest) → (s : Several version q epoch (count + n) n rest end)
    → Found version (run q (asked_actions s.list)) epoch (count + n) s.after end → Found version q epoch count (own ∷ bytes) end
with_frame version q epoch count n own bytes rest end opened h s f =
    let text : bytes ≡ frame_text version epoch (count + 1) s.list ++ s.after = (head_then version epoch count bytes n rest s.list s.after h s.number s.taken).parts in
    let after : s.after ≡ frames_text version epoch (count + length s.list) f.frames ++ f.gate ∷ f.tail = f.parts ∙ ap (λ (k : ℕ). frames_text version epoch (count + k) f.frames ++ f.gate ∷ f.tail) (sym s.number) in
    record {
      frames = (record { gate = own; asked = s.list }) ∷ f.frames;
      gate = f.gate;
      tail = f.tail;
      parts = ap (λ (l : List ℕ). own ∷ l) (text ∙ ap (λ (l : List ℕ). frame_text version epoch (count + 1) s.list ++ l) after ∙ sym (append_assoc (frame_text version epoch (count + 1) s.list) (frames_text version epoch (count + length s.list) f.frames) (f.gate ∷ f.tail)));
      shut = f.shut;
      left = f.left;
      are_frames = (
        opened,
        record { fits = h.fits; some = omega (arith, h.some, s.number); few = omega (arith, h.few, s.number); limits = All-from_recursion IsAskedAction s.list s.limits; askers = All-from_recursion (IsSaid version) s.list s.said },
        subst (λ (k : ℕ). AreFrames version epoch (count + k) f.frames) (sym s.number) f.are_frames,
      );
      borne = both_borne version (asked_actions s.list) (actions_in f.frames) (All-from_recursion (IsBorne version) (asked_actions s.list) s.borne) f.borne;
      admitted = admitted_join q (asked_actions s.list) (actions_in f.frames) s.admitted f.admitted;
      runs = run_append q (asked_actions s.list) (actions_in f.frames) ∙ f.runs;
    }

abbrev Founds : Version → ℕ → Type 0
Founds version most = (q : Condensed) (epoch count : ℕ) (bytes : List ℕ) (end : End) → length bytes < most → IsBytes bytes → after_replay q (course version epoch count 0 0 bytes) ≡ Ok end → Found version q epoch count bytes end

on_head : (version : Version) (most : ℕ) → Founds version most → (q : Condensed) (epoch count gate : ℕ) (bytes : List ℕ) (end : End) (r : Result (ℕ × List ℕ) ℕ) → head_at version epoch count bytes ≡ r → is_open version gate ≡ true → length bytes < most → IsBytes bytes
    → after_replay q (course version epoch count 0 0 (gate ∷ bytes)) ≡ Ok end → Found version q epoch count (gate ∷ bytes) end
on_head version most again q epoch count gate bytes end (Err left) read open_gate few fits e = absurd (fails_not left end q _ (no_head version epoch count left (gate ∷ bytes) (omega arith) open_gate read) e)
on_head version most again q epoch count gate bytes end (Ok x) read open_gate few fits e =
    let h = head_takes version epoch count bytes x fits read in
    let s = several version x.0 q epoch (count + x.0) x.1 end h.taken.rest_fits (omega (arith, h.inside)) (sym (ap (after_replay q) (opens version epoch count x.0 (gate ∷ bytes) x.1 (omega arith) open_gate read)) ∙ e) in
    let shorter : length s.after < most = omega (
      arith,
      few,
      ap length h.taken.parts ∙ length-append (frame_head version epoch (count + 1) x.0 ++ sum_text version (frame_head version epoch (count + 1) x.0 ++ take (16 * x.0) x.1)) x.1,
      ap length s.taken.parts ∙ length-append (texts_of version s.list) s.after,
    ) in
    let f = again (run q (asked_actions s.list)) epoch (count + x.0) s.after end shorter s.taken.rest_fits s.more in
    with_frame version q epoch count x.0 gate bytes x.1 end open_gate h s f

on_gate : (version : Version) (most : ℕ) → Founds version most → (q : Condensed) (epoch count gate : ℕ) (bytes : List ℕ) (end : End) (b : Bool) → is_open version gate ≡ b → length bytes < most → IsBytes bytes → after_replay q (course version epoch count 0 0 (gate ∷ bytes)) ≡ Ok end → Found version q epoch count (gate ∷ bytes) end
on_gate version most again q epoch count gate bytes end false shut few fits e = on_closed version q epoch count gate bytes end shut e
on_gate version most again q epoch count gate bytes end true open_gate few fits e = on_head version most again q epoch count gate bytes end (head_at version epoch count bytes) refl open_gate few fits e

found_in : (version : Version) (most : ℕ) → Founds version most
found_in version zero q epoch count bytes end few fits e = absurd (omega (arith, few))
found_in version (suc most) q epoch count [] end few fits e = absurd (fails_not 0 end q _ (no_gate version epoch count 0 [] (omega arith)) e)
found_in version (suc most) q epoch count (gate ∷ bytes) end few fits e = on_gate version most (found_in version most) q epoch count gate bytes end (is_open version gate) refl (omega (arith, few)) (IsBytes-drop 1 (gate ∷ bytes) fits) e

pub found : (version : Version) (q : Condensed) (epoch count : ℕ) (bytes : List ℕ) (end : Condensed × ℕ) → IsBytes bytes → after_replay q (course version epoch count 0 0 bytes) ≡ Ok end → Found version q epoch count bytes end
found version q epoch count bytes end fits e = found_in version (suc (length bytes)) q epoch count bytes end (omega arith) fits e

pub comes_written : (version : Version) (epoch : ℕ) (base plant : Condensed) (bytes : List ℕ) (left : ℕ) → IsBytes bytes → stored_in version epoch base bytes ≡ Ok (plant, left) → IsJournal version epoch base bytes plant left
comes_written version epoch base plant bytes left fits e =
    let f = found version base epoch base.panel.count bytes (plant, left) fits e in
    record { frames = f.frames; gate = f.gate; tail = f.tail; parts = f.parts; shut = f.shut; rest = f.left; spelled = f.are_frames; borne = f.borne; admitted = f.admitted; runs = f.runs }
