-- The head of a frame that is read is the one that was written, and what was written is read again.
use Rattle.std.proofs.Common.{◌≡◌, ℕ, ◌+◌, ◌-◌, ◌*◌, ◌/◌, ◌%◌, ◌^◌, ◌≤◌, ◌<◌, Bool, true, false, cond, ◌&&◌, eqb, ltb, leb, List, [], ◌++◌, length, take, drop, Result, Ok, Err, inl, inr, refl, sym, ap, subst, ◌∙◌, append_assoc, arith}
use Rattle.std.specs.Int.{Width, w16, w32, w64, byte_len, from_be_bytes, to_be_bytes}
use Rattle.std.proofs.lemmas.List.{length-append, take_at, drop_at, drop-drop}
use Rattle.std.proofs.lemmas.Bool.{eqb-true, leb-true, ltb-true, eq-eqb, le-leb, lt-ltb, and_parts, and_from}
use Rattle.alm_sum.specs.Crc.{checksum_of}
use Rattle.alm_codec.specs.declared.version.Version.{Version}
use Rattle.alm_codec.specs.declared.version.Version.TheVariants.{V01, V02, V03}
use Rattle.alm_codec.specs.Versions.{sum_len, sum_text}
use Rattle.alm_codec.specs.Reading.{IsBytes, ◌>>=◌, number_at, field_at}
use Rattle.alm_codec.specs.Frames.{count_unit, counted, count_at, first_at, first_text, frame_head, head_at, frame_head_len, shown, sum_at}
use Rattle.alm_codec.proofs.Bytes.{chosen}
use Rattle.alm_codec.proofs.Numbers.{bind_ok, test_ok, guard_ok, ok_is, Takes, Takes-then, wide16, wide32, wide64, number_takes, number_again, field_takes, field_again}

-- ---- counts

pub count_is : (version : Version) (m : ℕ) → 1 ≤ counted version m → m ≡ count_unit version * counted version m
count_is V01 m some = omega arith
count_is V02 m some = omega arith
count_is V03 m some =
    elim (chosen (eqb (m % 255) 0) (m / 255) 0 (counted V03 m) refl) [
      | inl (t, e) ↦ let rest : m % 255 ≡ 0 = eqb-true (m % 255) 0 t in omega (arith, rest, e)
      | inr (t, e) ↦ absurd (omega (arith, some, e))
    ]

pub counted_again : (version : Version) (n : ℕ) → counted version (count_unit version * n) ≡ n
counted_again V01 n = omega arith
counted_again V02 n = omega arith
counted_again V03 n =
    let rest : 255 * n % 255 ≡ 0 = omega arith in
    let is : 255 * n / 255 ≡ n = omega arith in
    ap (λ (b : Bool). cond b (255 * n / 255) 0) (eq-eqb (255 * n % 255) 0 rest) ∙ is

pub count_lt : (version : Version) (n : ℕ) → n ≤ 256 → count_unit version * n < 2 ^ 16
count_lt V01 n few = omega (arith, few)
count_lt V02 n few = omega (arith, few)
count_lt V03 n few = omega (arith, few)

abbrev pub is_count : Version → ℕ × List ℕ → Bool
is_count version n = leb 1 (counted version n.0) && leb (counted version n.0) 256 && ltb (sum_len version + 16 * counted version n.0) (length n.1)

record Counts (version : Version) (bytes : List ℕ) (x : ℕ × List ℕ) : Type 0 where
  taken : Takes bytes (to_be_bytes w16 (count_unit version * x.0)) x.1
  some : 1 ≤ x.0
  few : x.0 ≤ 256
  inside : sum_len version + 16 * x.0 < length x.1

count_takes : (version : Version) (bytes : List ℕ) (x : ℕ × List ℕ) → IsBytes bytes → count_at version bytes ≡ Ok x → Counts version bytes x
count_takes version bytes x fits e =
    let d = bind_ok (number_at w16 bytes) (λ n. cond (is_count version n) (Ok (counted version n.0, n.1)) (Err (length bytes))) x e in
    let g = test_ok (is_count version d.0) (length bytes) (counted version d.0.0, d.0.1) x d.2 in
    let v = number_takes w16 (2 ^ 16) wide16 bytes d.0.0 d.0.1 fits d.1 in
    let p = and_parts (leb 1 (counted version d.0.0) && leb (counted version d.0.0) 256) (ltb (sum_len version + 16 * counted version d.0.0) (length d.0.1)) g.0 in
    let q = and_parts (leb 1 (counted version d.0.0)) (leb (counted version d.0.0) 256) p.0 in
    let some : 1 ≤ counted version d.0.0 = leb-true 1 (counted version d.0.0) q.0 in
    subst (Counts version bytes) g.1
    (record {
      taken = subst (λ (k : ℕ). Takes bytes (to_be_bytes w16 k) d.0.1) (count_is version d.0.0 some) v.0;
      some = some;
      few = leb-true (counted version d.0.0) 256 q.1;
      inside = ltb-true (sum_len version + 16 * counted version d.0.0) (length d.0.1) p.1;
    })

count_again : (version : Version) (n : ℕ) (rest : List ℕ) → 1 ≤ n → n ≤ 256 → sum_len version + 16 * n < length rest → count_at version (to_be_bytes w16 (count_unit version * n) ++ rest) ≡ Ok (n, rest)
count_again version n rest some few inside =
    let bytes : List ℕ = to_be_bytes w16 (count_unit version * n) ++ rest in
    let again = counted_again version n in
    let counts : is_count version (count_unit version * n, rest) ≡ true =
    subst (λ (k : ℕ). (leb 1 k && leb k 256 && ltb (sum_len version + 16 * k) (length rest)) ≡ true) (sym again)
    (and_from (leb 1 n && leb n 256) (ltb (sum_len version + 16 * n) (length rest)) (and_from (leb 1 n) (leb n 256) (le-leb 1 n some) (le-leb n 256 few)) (lt-ltb (sum_len version + 16 * n) (length rest) inside)) in
    ap (λ r. r >>= λ m. cond (is_count version m) (Ok (counted version m.0, m.1)) (Err (length bytes))) (number_again w16 (2 ^ 16) wide16 (count_unit version * n) rest (count_lt version n few))
    ∙ ap (λ (b : Bool). cond b (Ok (counted version (count_unit version * n), rest)) (Err (length bytes))) counts
    ∙ ap (λ (k : ℕ). Ok (k, rest)) again

-- ---- checksums

pub sum_long : (version : Version) (text : List ℕ) → length (sum_text version text) ≡ sum_len version
sum_long V01 text = refl
sum_long V02 text = refl
sum_long V03 text = refl

record Sums (version : Version) (head : List ℕ) (n x : ℕ × List ℕ) : Type 0 where
  same : x.0 ≡ n.0
  taken : Takes n.1 (sum_text version (head ++ take (16 * x.0) x.1)) x.1

none_taken : (version : Version) (head : List ℕ) (n x : ℕ × List ℕ) → IsBytes n.1 → ((text : List ℕ) → sum_text version text ≡ []) → n ≡ x → Sums version head n x
none_taken version head n x fits none e =
    subst (Sums version head n) e (record { same = refl; taken = record { parts = ap (λ (t : List ℕ). t ++ n.1) (sym (none (head ++ take (16 * n.0) n.1))); rest_fits = fits } })

sum_takes : (version : Version) (head : List ℕ) (n x : ℕ × List ℕ) → IsBytes n.1 → sum_at version head n ≡ Ok x → Sums version head n x
sum_takes V01 head n x fits e = none_taken V01 head n x fits (λ text. refl) (ok_is n x e)
sum_takes V02 head n x fits e = none_taken V02 head n x fits (λ text. refl) (ok_is n x e)
sum_takes V03 head n x fits e =
    let test : ℕ → Bool = λ m. eqb m (checksum_of (head ++ take (16 * n.0) (drop 4 n.1))) in
    let s = bind_ok (field_at w32 test n.1) (λ s. Ok (n.0, s.1)) x e in
    let t = field_takes w32 (2 ^ 32) wide32 test n.1 s.0.0 s.0.1 fits s.1 in
    let behind : drop 4 n.1 ≡ s.0.1 = ap (drop 4) t.0.parts ∙ drop_at (to_be_bytes w32 s.0.0) s.0.1 4 refl in
    let is : s.0.0 ≡ checksum_of (head ++ take (16 * n.0) s.0.1) = eqb-true s.0.0 (checksum_of (head ++ take (16 * n.0) (drop 4 n.1))) t.2 ∙ ap (λ (l : List ℕ). checksum_of (head ++ take (16 * n.0) l)) behind in
    subst (Sums V03 head n) (ok_is (n.0, s.0.1) x s.2)
    (record { same = refl; taken = subst (λ (k : ℕ). Takes n.1 (to_be_bytes w32 k) s.0.1) is t.0 })

sum_again : (version : Version) (head texts rest : List ℕ) (n : ℕ) → length texts ≡ 16 * n → checksum_of (head ++ texts) < 2 ^ 32
    → sum_at version head (n, sum_text version (head ++ texts) ++ (texts ++ rest)) ≡ Ok (n, texts ++ rest)
sum_again V01 head texts rest n long lt = refl
sum_again V02 head texts rest n long lt = refl
sum_again V03 head texts rest n long lt =
    let sum : ℕ = checksum_of (head ++ texts) in
    let test : ℕ → Bool = λ m. eqb m (checksum_of (head ++ take (16 * n) (drop 4 (to_be_bytes w32 sum ++ (texts ++ rest))))) in
    let here : take (16 * n) (drop 4 (to_be_bytes w32 sum ++ (texts ++ rest))) ≡ texts = ap (take (16 * n)) (drop_at (to_be_bytes w32 sum) (texts ++ rest) 4 refl) ∙ take_at texts rest (16 * n) long in
    ap (λ r. r >>= λ (s : ℕ × List ℕ). Ok (n, s.1)) (field_again w32 (2 ^ 32) wide32 test sum (texts ++ rest) lt (eq-eqb sum _ (ap (λ (l : List ℕ). checksum_of (head ++ l)) (sym here))))

-- ---- numbers

record Firsts (version : Version) (first : ℕ) (bytes : List ℕ) (x : ℕ × List ℕ) : Type 0 where
  is : x.0 ≡ shown version first
  taken : Takes bytes (first_text version first) x.1
  fits : first < 2 ^ 64

first_takes : (version : Version) (first : ℕ) (bytes : List ℕ) (x : ℕ × List ℕ) → IsBytes bytes → first_at version first bytes ≡ Ok x → Firsts version first bytes x
first_takes V01 first bytes x fits e =
    let t = field_takes w64 (2 ^ 64) wide64 (λ n. eqb n first) bytes x.0 x.1 fits e in
    let is : x.0 ≡ first = eqb-true x.0 first t.2 in
    record { is = is; taken = subst (λ (k : ℕ). Takes bytes (to_be_bytes w64 k) x.1) is t.0; fits = omega (arith, t.1, is) }
first_takes V02 first bytes x fits e =
    let t = field_takes w64 (2 ^ 64) wide64 (λ n. eqb n first) bytes x.0 x.1 fits e in
    let is : x.0 ≡ first = eqb-true x.0 first t.2 in
    record { is = is; taken = subst (λ (k : ℕ). Takes bytes (to_be_bytes w64 k) x.1) is t.0; fits = omega (arith, t.1, is) }
first_takes V03 first bytes x fits e =
    let g = test_then (ltb first (2 ^ 64)) (field_at w32 (λ n. eqb n (first % 2 ^ 32)) bytes) (length bytes) x e in
    let t = field_takes w32 (2 ^ 32) wide32 (λ n. eqb n (first % 2 ^ 32)) bytes x.0 x.1 fits g.1 in
    let is : x.0 ≡ first % 2 ^ 32 = eqb-true x.0 (first % 2 ^ 32) t.2 in
    record { is = is; taken = subst (λ (k : ℕ). Takes bytes (to_be_bytes w32 k) x.1) is t.0; fits = ltb-true first (2 ^ 64) g.0 }
  where
    test_then : (b : Bool) (r : Result (ℕ × List ℕ) ℕ) (d : ℕ) (y : ℕ × List ℕ) → cond b r (Err d) ≡ Ok y → (b ≡ true) × (r ≡ Ok y)
    test_then true r d y e = (refl, e)
    test_then false r d y e = absurd cc

first_again : (version : Version) (first : ℕ) (rest : List ℕ) → first < 2 ^ 64 → first_at version first (first_text version first ++ rest) ≡ Ok (shown version first, rest)
first_again V01 first rest lt = field_again w64 (2 ^ 64) wide64 (λ n. eqb n first) first rest lt (eq-eqb first first refl)
first_again V02 first rest lt = field_again w64 (2 ^ 64) wide64 (λ n. eqb n first) first rest lt (eq-eqb first first refl)
first_again V03 first rest lt =
    rw (lt-ltb first (2 ^ 64) lt) (field_again w32 (2 ^ 32) wide32 (λ n. eqb n (first % 2 ^ 32)) (first % 2 ^ 32) rest (omega arith) (eq-eqb (first % 2 ^ 32) (first % 2 ^ 32) refl))

-- ---- heads

pub head_long : (version : Version) (epoch first n : ℕ) → length (frame_head version epoch first n) ≡ frame_head_len version
head_long V01 epoch first n = refl
head_long V02 epoch first n = refl
head_long V03 epoch first n = refl

pub with_sum_long : (version : Version) → frame_head_len version + sum_len version ≡ 18
with_sum_long V01 = refl
with_sum_long V02 = refl
with_sum_long V03 = refl

-- the head of a frame with a number of actions, and its checksum
pub record Heads (version : Version) (epoch count : ℕ) (bytes : List ℕ) (x : ℕ × List ℕ) : Type 0 where
  pub taken : Takes bytes (frame_head version epoch (count + 1) x.0 ++ sum_text version (frame_head version epoch (count + 1) x.0 ++ take (16 * x.0) x.1)) x.1
  pub fits : (epoch < 2 ^ 64) × (count + 1 < 2 ^ 64)
  pub some : 1 ≤ x.0
  pub few : x.0 ≤ 256
  pub inside : 16 * x.0 < length x.1

pub head_takes : (version : Version) (epoch count : ℕ) (bytes : List ℕ) (x : ℕ × List ℕ) → IsBytes bytes → head_at version epoch count bytes ≡ Ok x → Heads version epoch count bytes x
unfolding head_at
head_takes version epoch count bytes x fits e =
    let a = bind_ok (field_at w64 (λ n. eqb n epoch) bytes) (λ e. first_at version (count + 1) e.1 >>= λ f. count_at version f.1 >>= λ n. sum_at version (take (frame_head_len version) bytes) n) x e in
    let b = bind_ok (first_at version (count + 1) a.0.1) (λ f. count_at version f.1 >>= λ n. sum_at version (take (frame_head_len version) bytes) n) x a.2 in
    let d = bind_ok (count_at version b.0.1) (λ n. sum_at version (take (frame_head_len version) bytes) n) x b.2 in
    let t = field_takes w64 (2 ^ 64) wide64 (λ n. eqb n epoch) bytes a.0.0 a.0.1 fits a.1 in
    let u = first_takes version (count + 1) a.0.1 b.0 t.0.rest_fits b.1 in
    let v = count_takes version b.0.1 d.0 u.taken.rest_fits d.1 in
    let s = sum_takes version (take (frame_head_len version) bytes) d.0 x v.taken.rest_fits d.2 in
    let epoch-is : a.0.0 ≡ epoch = eqb-true a.0.0 epoch t.2 in
    let two = Takes-then bytes (to_be_bytes w64 a.0.0) a.0.1 (first_text version (count + 1)) b.0.1 t.0 u.taken in
    let three = Takes-then bytes (to_be_bytes w64 a.0.0 ++ first_text version (count + 1)) b.0.1 (to_be_bytes w16 (count_unit version * d.0.0)) d.0.1 two v.taken in
    let at_first = subst (λ (k : ℕ). Takes bytes (to_be_bytes w64 k ++ first_text version (count + 1) ++ to_be_bytes w16 (count_unit version * d.0.0)) d.0.1) epoch-is three in
    let head : Takes bytes (frame_head version epoch (count + 1) x.0) d.0.1 = subst (λ (k : ℕ). Takes bytes (frame_head version epoch (count + 1) k) d.0.1) (sym s.same) at_first in
    let front : take (frame_head_len version) bytes ≡ frame_head version epoch (count + 1) x.0 = ap (take (frame_head_len version)) head.parts ∙ take_at (frame_head version epoch (count + 1) x.0) d.0.1 (frame_head_len version) (head_long version epoch (count + 1) x.0) in
    let sum : Takes d.0.1 (sum_text version (frame_head version epoch (count + 1) x.0 ++ take (16 * x.0) x.1)) x.1 =
    subst (λ (h : List ℕ). Takes d.0.1 (sum_text version (h ++ take (16 * x.0) x.1)) x.1) front s.taken in
    let text : List ℕ = sum_text version (frame_head version epoch (count + 1) x.0 ++ take (16 * x.0) x.1) in
    let long : length d.0.1 ≡ sum_len version + length x.1 = ap length sum.parts ∙ length-append text x.1 ∙ ap (λ (k : ℕ). k + length x.1) (sum_long version (frame_head version epoch (count + 1) x.0 ++ take (16 * x.0) x.1)) in
    record {
      taken = Takes-then bytes (frame_head version epoch (count + 1) x.0) d.0.1 text x.1 head sum;
      fits = (omega (arith, t.1, epoch-is), u.fits);
      some = omega (arith, v.some, s.same);
      few = omega (arith, v.few, s.same);
      inside = omega (arith, v.inside, s.same, long);
    }

parts_of : (a b c d e : List ℕ) → (a ++ b ++ c) ++ (d ++ e) ≡ a ++ (b ++ (c ++ (d ++ e)))
parts_of a b c d e = simp append_assoc

pub head_again : (version : Version) (epoch count n : ℕ) (texts rest : List ℕ) → epoch < 2 ^ 64 → count + 1 < 2 ^ 64 → 1 ≤ n → n ≤ 256 → length texts ≡ 16 * n → 1 ≤ length rest
    → checksum_of (frame_head version epoch (count + 1) n ++ texts) < 2 ^ 32
    → head_at version epoch count (frame_head version epoch (count + 1) n ++ (sum_text version (frame_head version epoch (count + 1) n ++ texts) ++ (texts ++ rest))) ≡ Ok (n, texts ++ rest)
unfolding head_at
head_again version epoch count n texts rest e f some few long more lt =
    let head : List ℕ = frame_head version epoch (count + 1) n in
    let sum : List ℕ = sum_text version (head ++ texts) in
    let behind : List ℕ = sum ++ (texts ++ rest) in
    let last : List ℕ = to_be_bytes w16 (count_unit version * n) ++ behind in
    let middle : List ℕ = first_text version (count + 1) ++ last in
    let whole : List ℕ = to_be_bytes w64 epoch ++ middle in
    let bytes : List ℕ = head ++ behind in
    let grouped : bytes ≡ whole = parts_of (to_be_bytes w64 epoch) (first_text version (count + 1)) (to_be_bytes w16 (count_unit version * n)) sum (texts ++ rest) in
    let size : length behind ≡ sum_len version + (16 * n + length rest) = length-append sum (texts ++ rest) ∙ (λ i. sum_long version (head ++ texts) i + (length-append texts rest ∙ ap (λ (k : ℕ). k + length rest) long) i) in
    let epoch_read : field_at w64 (λ n. eqb n epoch) bytes ≡ Ok (epoch, middle) = ap (field_at w64 (λ n. eqb n epoch)) grouped ∙ field_again w64 (2 ^ 64) wide64 (λ n. eqb n epoch) epoch middle e (eq-eqb epoch epoch refl) in
    let first_read : first_at version (count + 1) middle ≡ Ok (shown version (count + 1), last) = first_again version (count + 1) last f in
    let count_read : count_at version last ≡ Ok (n, behind) = count_again version n behind some few (omega (arith, size, more)) in
    let front : take (frame_head_len version) bytes ≡ head = take_at head behind (frame_head_len version) (head_long version epoch (count + 1) n) in
    ap (λ r. r >>= λ e. first_at version (count + 1) e.1 >>= λ f. count_at version f.1 >>= λ n. sum_at version (take (frame_head_len version) bytes) n) epoch_read
    ∙ ap (λ r. r >>= λ f. count_at version f.1 >>= λ n. sum_at version (take (frame_head_len version) bytes) n) first_read
    ∙ ap (λ r. r >>= λ n. sum_at version (take (frame_head_len version) bytes) n) count_read
    ∙ ap (λ (h : List ℕ). sum_at version h (n, behind)) front
    ∙ sum_again version head texts rest n long lt

-- what is left after a head that was read
rest_of : (w : Width) (test : ℕ → Bool) (bytes : List ℕ) (x : ℕ × List ℕ) → field_at w test bytes ≡ Ok x → x.1 ≡ drop (byte_len w) bytes
rest_of w test bytes x e =
    let b = bind_ok (number_at w bytes) (λ m. cond (test m.0) (Ok m) (Err (length bytes))) x e in
    let g = test_ok (test b.0.0) (length bytes) b.0 x b.2 in
    let n = guard_ok (ltb (length bytes) (byte_len w)) (length bytes) (from_be_bytes w (take (byte_len w) bytes), drop (byte_len w) bytes) b.0 b.1 in
    ap (λ (y : ℕ × List ℕ). y.1) (sym g.1) ∙ ap (λ (y : ℕ × List ℕ). y.1) (sym n.1)

count_rest : (version : Version) (bytes : List ℕ) (x : ℕ × List ℕ) → count_at version bytes ≡ Ok x → x.1 ≡ drop 2 bytes
count_rest version bytes x e =
    let d = bind_ok (number_at w16 bytes) (λ n. cond (is_count version n) (Ok (counted version n.0, n.1)) (Err (length bytes))) x e in
    let g = test_ok (is_count version d.0) (length bytes) (counted version d.0.0, d.0.1) x d.2 in
    let n = guard_ok (ltb (length bytes) 2) (length bytes) (from_be_bytes w16 (take 2 bytes), drop 2 bytes) d.0 d.1 in
    ap (λ (y : ℕ × List ℕ). y.1) (sym g.1) ∙ ap (λ (y : ℕ × List ℕ). y.1) (sym n.1)

sum_rest : (version : Version) (head : List ℕ) (n x : ℕ × List ℕ) → sum_at version head n ≡ Ok x → x.1 ≡ drop (sum_len version) n.1
sum_rest V01 head n x e = ap (λ (y : ℕ × List ℕ). y.1) (sym (ok_is n x e))
sum_rest V02 head n x e = ap (λ (y : ℕ × List ℕ). y.1) (sym (ok_is n x e))
sum_rest V03 head n x e =
    let test : ℕ → Bool = λ m. eqb m (checksum_of (head ++ take (16 * n.0) (drop 4 n.1))) in
    let s = bind_ok (field_at w32 test n.1) (λ s. Ok (n.0, s.1)) x e in
    ap (λ (y : ℕ × List ℕ). y.1) (sym (ok_is (n.0, s.0.1) x s.2)) ∙ rest_of w32 test n.1 s.0 s.1

first_rest : (version : Version) (first : ℕ) (bytes : List ℕ) (x : ℕ × List ℕ) → first_at version first bytes ≡ Ok x → x.1 ≡ drop (8 - sum_len version) bytes
first_rest V01 first bytes x e = rest_of w64 (λ n. eqb n first) bytes x e
first_rest V02 first bytes x e = rest_of w64 (λ n. eqb n first) bytes x e
first_rest V03 first bytes x e = rest_of w32 (λ n. eqb n (first % 2 ^ 32)) bytes x (taken_if (ltb first (2 ^ 64)) (field_at w32 (λ n. eqb n (first % 2 ^ 32)) bytes) e)
  where
    taken_if : (b : Bool) (r : Result (ℕ × List ℕ) ℕ) → cond b r (Err (length bytes)) ≡ Ok x → r ≡ Ok x
    taken_if true r e = e
    taken_if false r e = absurd cc

all_dropped : (version : Version) (bytes : List ℕ) → drop (sum_len version) (drop 2 (drop (8 - sum_len version) (drop 8 bytes))) ≡ drop 18 bytes
all_dropped V01 bytes = ap (λ (l : List ℕ). drop 2 l) (drop-drop 8 8 bytes) ∙ drop-drop 2 16 bytes
all_dropped V02 bytes = ap (λ (l : List ℕ). drop 2 l) (drop-drop 8 8 bytes) ∙ drop-drop 2 16 bytes
all_dropped V03 bytes = ap (λ (l : List ℕ). drop 4 (drop 2 l)) (drop-drop 4 8 bytes) ∙ ap (drop 4) (drop-drop 2 12 bytes) ∙ drop-drop 4 14 bytes

pub head_rest : (version : Version) (epoch count : ℕ) (bytes : List ℕ) (x : ℕ × List ℕ) → head_at version epoch count bytes ≡ Ok x → x.1 ≡ drop 18 bytes
unfolding head_at
head_rest version epoch count bytes x e =
    let a = bind_ok (field_at w64 (λ n. eqb n epoch) bytes) (λ e. first_at version (count + 1) e.1 >>= λ f. count_at version f.1 >>= λ n. sum_at version (take (frame_head_len version) bytes) n) x e in
    let b = bind_ok (first_at version (count + 1) a.0.1) (λ f. count_at version f.1 >>= λ n. sum_at version (take (frame_head_len version) bytes) n) x a.2 in
    let d = bind_ok (count_at version b.0.1) (λ n. sum_at version (take (frame_head_len version) bytes) n) x b.2 in
    sum_rest version (take (frame_head_len version) bytes) d.0 x d.2
    ∙ ap (drop (sum_len version)) (count_rest version b.0.1 d.0 d.1 ∙ ap (drop 2) (first_rest version (count + 1) a.0.1 b.0 b.1) ∙ ap (λ (l : List ℕ). drop 2 (drop (8 - sum_len version) l)) (rest_of w64 (λ n. eqb n epoch) bytes a.0 a.1))
    ∙ all_dropped version bytes
