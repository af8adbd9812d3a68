-- Writing a frame: its actions, then what comes before them.
use Rattle.std.proofs.Common.{◌≡◌, ℕ, ◌+◌, ◌*◌, ◌≤◌, ◌<◌, List, [], ◌∷◌, ◌++◌, length, take, drop, get_or, All, sym, ap, subst, ◌∙◌, append_assoc, arith}
use Rattle.std.proofs.lemmas.List.{length-append, length-drop, length-take-le, take_more, flat_map_more, drop_at, take_at}
use Rattle.std.proofs.lemmas.Slice.{drop-append-drop}
use Rattle.std.proofs.lemmas.List.Elements.{All-from_recursion, All-append}
use Rattle.alm_codec.specs.Actions.{asked_text}
use Rattle.alm_codec.specs.declared.asked.Asked.{Asked}
use Rattle.alm_codec.specs.declared.version.Version.{Version}
use Rattle.alm_codec.specs.Versions.{closed_gate, sum_text}
use Rattle.alm_codec.specs.Frames.{IsAskedAction, texts_of, frame_head, frame_text, frame_body, frame_head_len}
use Rattle.alm_codec.specs.Writing.{Wrote}
use Rattle.alm_codec.proofs.Writing.{Wrote-then}

one_more : (xs : List Asked) (i : ℕ) (x : Asked) → i < length xs → x ≡ get_or xs i x → take i xs ++ x ∷ [] ≡ take (i + 1) xs
one_more xs i x lt e = ap (λ (y : Asked). take i xs ++ y ∷ []) e ∙ sym (take_more xs i x lt)

pub text_more : (version : Version) (xs : List Asked) (i : ℕ) (x : Asked) → i < length xs → x ≡ get_or xs i x → texts_of version (take i xs) ++ asked_text version x ≡ texts_of version (take (i + 1) xs)
text_more version xs i x lt e = flat_map_more (asked_text version) [] (take i xs) x ∙ ap (texts_of version) (one_more xs i x lt e)

pub limits_more : (xs : List Asked) (i : ℕ) (x : Asked) → i < length xs → x ≡ get_or xs i x → All IsAskedAction (take i xs) → IsAskedAction x → All IsAskedAction (take (i + 1) xs)
limits_more xs i x lt e h p = subst (All IsAskedAction) (one_more xs i x lt e) (All-append IsAskedAction (take i xs) (x ∷ []) h (All-from_recursion IsAskedAction (x ∷ []) (p, tt)))

pub head_parts : (p q r a b c : List ℕ) → p ≡ a → q ≡ b → r ≡ c → p ++ q ++ r ≡ a ++ b ++ c
head_parts p q r a b c e f g = ap (λ (t : List ℕ). t ++ q ++ r) e ∙ ap (λ (t : List ℕ). a ++ t ++ r) f ∙ ap (λ (t : List ℕ). a ++ b ++ t) g

pub Wrote-length : (a b : List ℕ) (at end : ℕ) (x : List ℕ) → Wrote a b at end x → end ≤ length a → length b ≡ length a
Wrote-length a b at end x p room = ap length p.is ∙ omega (arith, length-append (take at a ++ x) (drop end a), length-append (take at a) x, length-take-le at a (omega (arith, p.ends, room)), length-drop end a, p.ends, room)

-- the same end, written otherwise
pub until : (a b : List ℕ) (at end last : ℕ) (x : List ℕ) → end ≡ last → Wrote a b at end x → Wrote a b at last x
until a b at end last x e w = subst (λ n. Wrote a b at n x) e w

-- what is written before a text that was written
pub Wrote-before : (a b c : List ℕ) (at end : ℕ) (x y : List ℕ) → Wrote a b at end y → Wrote b c 0 at x → at ≤ length a → Wrote a c 0 end (x ++ y)
Wrote-before a b c at end x y p q room =
    let behind : drop at b ≡ y ++ drop end a = ap (drop at) (p.is ∙ append_assoc (take at a) y (drop end a)) ∙ drop_at (take at a) (y ++ drop end a) at (length-take-le at a room) in
    record { is = q.is ∙ ap (λ (t : List ℕ). x ++ t) behind ∙ sym (append_assoc x y (drop end a)); ends = omega (arith, p.ends, q.ends, length-append x y) }

-- what stands after the head, if the actions were written there first
head_then_texts : (a b c texts head : List ℕ) (n size : ℕ) → Wrote a b 18 (18 + size) texts → Wrote b c 0 n head → n ≤ 18 → 18 ≤ length a → (take n c ≡ head) × (take size (drop 18 c) ≡ texts)
head_then_texts a b c texts head n size p q low room =
    let front : take n c ≡ head = ap (take n) q.is ∙ take_at head (drop n b) n (omega (arith, q.ends)) in
    let here : drop 18 b ≡ texts ++ drop (18 + size) a = ap (drop 18) (p.is ∙ append_assoc (take 18 a) texts (drop (18 + size) a)) ∙ drop_at (take 18 a) (texts ++ drop (18 + size) a) 18 (length-take-le 18 a room) in
    let behind : drop 18 c ≡ drop 18 b = ap (drop 18) q.is ∙ drop-append-drop n b head 18 low (omega (arith, q.ends)) in
    (front, ap (take size) (behind ∙ here) ∙ take_at texts (drop (18 + size) a) size (omega (arith, p.ends)))

-- a body that was written: the actions, the head before them, the checksum between them, and the next gate
pub body_is : (version : Version) (old one two three new : List ℕ) (epoch first : ℕ) (list : List Asked)
    → 19 + 16 * length list ≤ length old
    → Wrote old one 18 (18 + 16 * length list) (texts_of version list)
    → Wrote one two 0 (frame_head_len version) (frame_head version epoch first (length list))
    → Wrote two three (frame_head_len version) 18 (sum_text version (take (frame_head_len version) two ++ take (16 * length list) (drop 18 two)))
    → Wrote three new (18 + 16 * length list) (18 + 16 * length list + 1) (closed_gate version ∷ [])
    → new ≡ frame_body version epoch first list ++ drop (19 + 16 * length list) old
body_is version old one two three new epoch first list room texts head sum gate =
    let end : ℕ = 18 + 16 * length list in
    let h : List ℕ = frame_head version epoch first (length list) in
    let long : length one ≡ length old = Wrote-length old one 18 end (texts_of version list) texts (omega (arith, room)) in
    let is = head_then_texts old one two (texts_of version list) h (frame_head_len version) (16 * length list) texts head (omega arith) (omega (arith, room)) in
    let s : Wrote two three (frame_head_len version) 18 (sum_text version (h ++ texts_of version list)) =
    subst (λ (t : List ℕ). Wrote two three (frame_head_len version) 18 (sum_text version t)) (λ i. is.0 i ++ is.1 i) sum in
    let front : Wrote one three 0 18 (h ++ sum_text version (h ++ texts_of version list)) = Wrote-then one two three 0 (frame_head_len version) 18 h (sum_text version (h ++ texts_of version list)) head s (omega (arith, room, long)) in
    let all : Wrote old three 0 end (frame_text version epoch first list) = Wrote-before old one three 18 end (h ++ sum_text version (h ++ texts_of version list)) (texts_of version list) texts front (omega (arith, room)) in
    let body = Wrote-then old three new 0 end (end + 1) (frame_text version epoch first list) (closed_gate version ∷ []) all gate (omega (arith, room)) in
    let next : end + 1 ≡ 19 + 16 * length list = omega arith in
    body.is ∙ ap (λ (k : ℕ). frame_body version epoch first list ++ drop k old) next
