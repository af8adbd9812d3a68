-- The parts of an alarm's text, written one after the other.
use Rattle.std.proofs.Common.{◌≡◌, ℕ, ◌-◌, ◌≤◌, List, [], ◌∷◌, ◌++◌, length, replicate, refl, ap, ◌∙◌, arith}
use Rattle.std.specs.Prelude.{slice_index_or}
use Rattle.std.specs.Int.{w32, w64, to_be_bytes, cast_unsigned}
use Rattle.alm_types.specs.Texts.{with_padding}
use Rattle.alm_types.specs.declared.attr.Attr.{Attr}
use Rattle.alm_state.specs.Rows.{State}
use Rattle.alm_state.specs.Showing.{flags_of}
use Rattle.alm_model.specs.Lists.{deadline}
use Rattle.alm_codec.specs.Actions.{switch_number}
use Rattle.alm_codec.specs.Image.{kind_code, core_code, words, placed_text, settings_text, row_text}

pub settings_is : (a : Attr) (k l w : ℕ) (m : List ℕ) → k ≡ kind_code a.kind → l ≡ switch_number a.latching → w ≡ cast_unsigned w64 a.setpoint → m ≡ to_be_bytes w32 a.max_shelve
    → (((k ∷ a.priority ∷ a.area ∷ l ∷ []) ++ to_be_bytes w64 w) ++ to_be_bytes w64 a.deadband) ++ m ≡ settings_text a
settings_is a k l w m e f g h =
    ap (λ (k : ℕ). (((k ∷ a.priority ∷ a.area ∷ l ∷ []) ++ to_be_bytes w64 w) ++ to_be_bytes w64 a.deadband) ++ m) e
    ∙ ap (λ (l : ℕ). (((kind_code a.kind ∷ a.priority ∷ a.area ∷ l ∷ []) ++ to_be_bytes w64 w) ++ to_be_bytes w64 a.deadband) ++ m) f
    ∙ ap (λ (w : ℕ). (((kind_code a.kind ∷ a.priority ∷ a.area ∷ switch_number a.latching ∷ []) ++ to_be_bytes w64 w) ++ to_be_bytes w64 a.deadband) ++ m) g
    ∙ ap (λ (m : List ℕ). (((kind_code a.kind ∷ a.priority ∷ a.area ∷ switch_number a.latching ∷ []) ++ to_be_bytes w64 (cast_unsigned w64 a.setpoint)) ++ to_be_bytes w64 a.deadband) ++ m) h

pub placed_is : (text : List ℕ) (size rest end : ℕ) → end - rest ≡ size - length text → ((length text ∷ []) ++ text) ++ replicate (end - rest) 0 ≡ placed_text size text
placed_is text size rest end e = ap (λ (k : ℕ). length text ∷ text ++ replicate k 0) e

pub words_is : (ms : List ℕ) → length ms ≤ 3 → (to_be_bytes w64 (slice_index_or ms 0 0) ++ to_be_bytes w64 (slice_index_or ms 1 0)) ++ to_be_bytes w64 (slice_index_or ms 2 0) ≡ words (with_padding 3 ms)
words_is [] few = refl
words_is (a ∷ []) few = refl
words_is (a ∷ b ∷ []) few = refl
words_is (a ∷ b ∷ c ∷ []) few = refl
words_is (a ∷ b ∷ c ∷ d ∷ ms) few = absurd (omega arith)

pub row_is : (s : State) (ms : List ℕ) (a c f d n : ℕ) → a ≡ switch_number s.active → c ≡ core_code s.core → f ≡ flags_of s → d ≡ deadline s → n ≡ s.stamp
    → (((a ∷ c ∷ f ∷ length ms ∷ []) ++ to_be_bytes w64 d) ++ to_be_bytes w64 n) ++ words (with_padding 3 ms) ≡ row_text s ms
row_is s ms a c f d n p q r t u =
    let rest : List ℕ = words (with_padding 3 ms) in
    ap (λ (a : ℕ). (((a ∷ c ∷ f ∷ length ms ∷ []) ++ to_be_bytes w64 d) ++ to_be_bytes w64 n) ++ rest) p
    ∙ ap (λ (c : ℕ). (((switch_number s.active ∷ c ∷ f ∷ length ms ∷ []) ++ to_be_bytes w64 d) ++ to_be_bytes w64 n) ++ rest) q
    ∙ ap (λ (f : ℕ). (((switch_number s.active ∷ core_code s.core ∷ f ∷ length ms ∷ []) ++ to_be_bytes w64 d) ++ to_be_bytes w64 n) ++ rest) r
    ∙ ap (λ (d : ℕ). (((switch_number s.active ∷ core_code s.core ∷ flags_of s ∷ length ms ∷ []) ++ to_be_bytes w64 d) ++ to_be_bytes w64 n) ++ rest) t
    ∙ ap (λ (n : ℕ). (((switch_number s.active ∷ core_code s.core ∷ flags_of s ∷ length ms ∷ []) ++ to_be_bytes w64 (deadline s)) ++ to_be_bytes w64 n) ++ rest) u
