-- The first line of what came, a byte later.
use Rattle.std.proofs.Common.{◌≡◌, ℕ, ◌<◌, ◌≤◌, Bool, true, false, List, [], ◌∷◌, ◌++◌, length, take, refl, sym, ap, ◌∙◌, arith}
use Rattle.std.proofs.lemmas.List.{append-nil, length-append, length-take, take-append-le, take_all}
use Rattle.std.specs.Prelude.{◌==◌, ◌||◌, not, if◌then◌else◌}
use Rattle.std.specs.List.{list_any}
use Rattle.alm_serve.specs.Http.{is_break, http_text, first_line_of, is_whole, has_space, last_word}
use Rattle.alm_serve.specs.Beginnings.{is_some, KnowsLine}

-- whether any byte is such a one
any_more : (p : ℕ → Bool) (xs : List ℕ) (b : ℕ) → list_any p (xs ++ b ∷ []) ≡ (list_any p xs || p b)
any_more p [] b = or_false (p b)
  where
    or_false : (t : Bool) → (t || false) ≡ t
    or_false true = refl
    or_false false = refl
any_more p (x ∷ xs) b = go (p x) (any_more p xs b)
  where
    go : (t : Bool) → list_any p (xs ++ b ∷ []) ≡ (list_any p xs || p b) → (t || list_any p (xs ++ b ∷ [])) ≡ ((t || list_any p xs) || p b)
    go true is = refl
    go false is = is

-- once a text has begun each byte is one of it
text_more : (came : List ℕ) (b : ℕ) → http_text (came ++ b ∷ []) ≡ (if is_some (http_text came) then http_text came ++ b ∷ [] else http_text (b ∷ []))
text_more [] b = refl
text_more (c ∷ came) b = go (is_break c) (text_more came b)
  where
    go : (t : Bool) → http_text (came ++ b ∷ []) ≡ (if is_some (http_text came) then http_text came ++ b ∷ [] else http_text (b ∷ []))
        → (if t then http_text (came ++ b ∷ []) else (c ∷ (came ++ b ∷ []))) ≡ (if is_some (if t then http_text came else (c ∷ came)) then (if t then http_text came else (c ∷ came)) ++ b ∷ [] else http_text (b ∷ []))
    go true is = is
    go false is = refl

line_more : (text : List ℕ) (b : ℕ) → first_line_of (text ++ b ∷ []) ≡ (if is_whole text then first_line_of text else first_line_of text ++ first_line_of (b ∷ []))
line_more [] b = refl
line_more (c ∷ text) b = go (c == 10) (line_more text b)
  where
    go : (t : Bool) → first_line_of (text ++ b ∷ []) ≡ (if is_whole text then first_line_of text else first_line_of text ++ first_line_of (b ∷ []))
        → (if t then [] else (c ∷ first_line_of (text ++ b ∷ []))) ≡ (if t || is_whole text then (if t then [] else (c ∷ first_line_of text)) else (if t then [] else (c ∷ first_line_of text)) ++ first_line_of (b ∷ []))
    go true is = refl
    go false is = ap (λ (l : List ℕ). c ∷ l) is ∙ inside (is_whole text)
      where
        inside : (w : Bool) → c ∷ (if w then first_line_of text else first_line_of text ++ first_line_of (b ∷ [])) ≡ (if w then c ∷ first_line_of text else (c ∷ first_line_of text) ++ first_line_of (b ∷ []))
        inside true = refl
        inside false = refl

word_more : (line : List ℕ) (b : ℕ) → (b == 32) ≡ false → last_word (line ++ b ∷ []) ≡ last_word line ++ b ∷ []
word_more [] b not32 = go (b == 32) not32
  where
    go : (t : Bool) → t ≡ false → (if t then [] else b ∷ []) ≡ b ∷ []
    go true not32 = absurd (cc not32)
    go false not32 = refl
word_more (c ∷ line) b not32 =
    ap (λ (t : Bool). if t then last_word (line ++ b ∷ []) else (if c == 32 then line ++ b ∷ [] else (c ∷ (line ++ b ∷ [])))) (any_more (λ byte. byte == 32) line b ∙ ap (λ (t : Bool). has_space line || t) not32 ∙ or_false (has_space line))
    ∙ go (has_space line) (c == 32) (word_more line b not32)
  where
    or_false : (t : Bool) → (t || false) ≡ t
    or_false true = refl
    or_false false = refl

    go : (s t : Bool) → last_word (line ++ b ∷ []) ≡ last_word line ++ b ∷ []
        → (if s then last_word (line ++ b ∷ []) else (if t then line ++ b ∷ [] else (c ∷ (line ++ b ∷ [])))) ≡ (if s then last_word line else (if t then line else (c ∷ line))) ++ b ∷ []
    go true t is = is
    go false true is = refl
    go false false is = refl

word_anew : (line : List ℕ) (b : ℕ) → (b == 32) ≡ true → last_word (line ++ b ∷ []) ≡ []
word_anew [] b is32 = go (b == 32) is32
  where
    go : (t : Bool) → t ≡ true → (if t then [] else b ∷ []) ≡ []
    go true is32 = refl
    go false is32 = absurd (cc is32)
word_anew (c ∷ line) b is32 =
    ap (λ (t : Bool). if t then last_word (line ++ b ∷ []) else (if c == 32 then line ++ b ∷ [] else (c ∷ (line ++ b ∷ [])))) (any_more (λ byte. byte == 32) line b ∙ ap (λ (t : Bool). has_space line || t) is32 ∙ or_true (has_space line))
    ∙ word_anew line b is32
  where
    or_true : (t : Bool) → (t || true) ≡ true
    or_true true = refl
    or_true false = refl

-- at most ten bytes of a word are kept
pub kept_all : (w kept : List ℕ) (b : ℕ) → kept ≡ take 10 w → length kept < 10 → kept ++ b ∷ [] ≡ take 10 (w ++ b ∷ [])
kept_all w kept b is short =
    let few : length w < 10 = omega (arith, short, ap length is, length-take 10 w) in
    ap (λ (l : List ℕ). l ++ b ∷ []) (is ∙ take_all 10 w (omega (arith, few))) ∙ sym (take_all 10 (w ++ b ∷ []) (omega (arith, few, length-append w (b ∷ []))))

pub kept_no_more : (w kept : List ℕ) (b : ℕ) → kept ≡ take 10 w → 10 ≤ length kept → kept ≡ take 10 (w ++ b ∷ [])
kept_no_more w kept b is full = is ∙ sym (take-append-le 10 w (b ∷ []) (omega (arith, full, ap length is, length-take 10 w)))

some_more : (text : List ℕ) (b : ℕ) → is_some (text ++ b ∷ []) ≡ true
some_more [] b = refl
some_more (c ∷ text) b = refl

some_whole : (text : List ℕ) → true ≡ is_whole text → is_some text ≡ true
some_whole [] is = absurd (cc is)
some_whole (c ∷ text) is = refl

none_text : (text : List ℕ) → false ≡ is_some text → text ≡ []
none_text [] is = refl
none_text (c ∷ text) is = absurd (cc is)

-- a text that has begun goes on
text_on : (came : List ℕ) (b : ℕ) → is_some (http_text came) ≡ true → http_text (came ++ b ∷ []) ≡ http_text came ++ b ∷ []
text_on came b is = text_more came b ∙ ap (λ (t : Bool). if t then http_text came ++ b ∷ [] else http_text (b ∷ [])) is

-- a byte that is no break begins one
text_new : (came : List ℕ) (b : ℕ) → false ≡ is_some (http_text came) → is_break b ≡ false → http_text (came ++ b ∷ []) ≡ http_text came ++ b ∷ []
text_new came b is other =
    text_more came b ∙ ap (λ (t : Bool). if t then http_text came ++ b ∷ [] else http_text (b ∷ [])) (sym is) ∙ ap (λ (t : Bool). if t then [] else b ∷ []) other
    ∙ ap (λ (l : List ℕ). l ++ b ∷ []) (sym (none_text (http_text came) is))

pub text_next : (came : List ℕ) (b : ℕ) (begun : Bool) → begun ≡ is_some (http_text came) → (begun ≡ false → is_break b ≡ false) → http_text (came ++ b ∷ []) ≡ http_text came ++ b ∷ []
text_next came b true is other = text_on came b (sym is)
text_next came b false is other = text_new came b is (other refl)

-- nothing changes after the end of the line
pub after_line : (came : List ℕ) (b : ℕ) (begun space : Bool) (word : List ℕ) → KnowsLine came begun true space word → KnowsLine (came ++ b ∷ []) begun true space word
after_line came b begun space word k =
    let some = some_whole (http_text came) k.ends in
    let same = text_on came b some in
    let lines : first_line_of (http_text (came ++ b ∷ [])) ≡ first_line_of (http_text came) = ap first_line_of same ∙ line_more (http_text came) b ∙ ap (λ (t : Bool). if t then first_line_of (http_text came) else first_line_of (http_text came) ++ first_line_of (b ∷ [])) (sym k.ends) in
    record {
      begins = k.begins ∙ some ∙ sym (ap is_some same ∙ some_more (http_text came) b);
      ends = sym (ap is_whole same ∙ any_more (λ byte. byte == 10) (http_text came) b ∙ ap (λ (t : Bool). t || (b == 10)) (sym k.ends));
      spaced = k.spaced ∙ ap has_space (sym lines);
      last = k.last ∙ ap (λ (l : List ℕ). take 10 (last_word l)) (sym lines);
    }

-- nor by a break before the line
pub before_line : (came : List ℕ) (b : ℕ) (ended space : Bool) (word : List ℕ) → is_break b ≡ true → KnowsLine came false ended space word → KnowsLine (came ++ b ∷ []) false ended space word
before_line came b ended space word breaks k =
    let none = none_text (http_text came) k.begins in
    let same : http_text (came ++ b ∷ []) ≡ http_text came =
    text_more came b ∙ ap (λ (t : Bool). if t then http_text came ++ b ∷ [] else http_text (b ∷ [])) (sym k.begins) ∙ ap (λ (t : Bool). if t then [] else b ∷ []) breaks ∙ sym none in
    record {
      begins = k.begins ∙ ap is_some (sym same);
      ends = k.ends ∙ ap is_whole (sym same);
      spaced = k.spaced ∙ ap (λ (t : List ℕ). has_space (first_line_of t)) (sym same);
      last = k.last ∙ ap (λ (t : List ℕ). take 10 (last_word (first_line_of t))) (sym same);
    }

module _ (came : List ℕ) (b : ℕ) (begun space : Bool) (word : List ℕ) (k : KnowsLine came begun false space word) (next : begun ≡ false → is_break b ≡ false) where
  same : http_text (came ++ b ∷ []) ≡ http_text came ++ b ∷ []
  same = text_next came b begun k.begins next

  lines : first_line_of (http_text (came ++ b ∷ [])) ≡ first_line_of (http_text came) ++ first_line_of (b ∷ [])
  lines = ap first_line_of same ∙ line_more (http_text came) b ∙ ap (λ (t : Bool). if t then first_line_of (http_text came) else first_line_of (http_text came) ++ first_line_of (b ∷ [])) (sym k.ends)

  begins : true ≡ is_some (http_text (came ++ b ∷ []))
  begins = sym (ap is_some same ∙ some_more (http_text came) b)

  ends : (b == 10) ≡ is_whole (http_text (came ++ b ∷ []))
  ends = sym (ap is_whole same ∙ any_more (λ byte. byte == 10) (http_text came) b ∙ ap (λ (t : Bool). t || (b == 10)) (sym k.ends))

  -- its LF ends it
  pub line_ends : (b == 10) ≡ true → KnowsLine (came ++ b ∷ []) true true space word
  line_ends is =
      let line : first_line_of (http_text (came ++ b ∷ [])) ≡ first_line_of (http_text came) = lines ∙ ap (λ (t : Bool). first_line_of (http_text came) ++ (if t then [] else b ∷ [])) is ∙ append-nil (first_line_of (http_text came)) in
      record {
        begins = begins;
        ends = sym is ∙ ends;
        spaced = k.spaced ∙ ap has_space (sym line);
        last = k.last ∙ ap (λ (l : List ℕ). take 10 (last_word l)) (sym line);
      }

  longer : (b == 10) ≡ false → first_line_of (http_text (came ++ b ∷ [])) ≡ first_line_of (http_text came) ++ b ∷ []
  longer is = lines ∙ ap (λ (t : Bool). first_line_of (http_text came) ++ (if t then [] else b ∷ [])) is

  -- a space ends its word
  pub word_ends : (b == 10) ≡ false → (b == 32) ≡ true → KnowsLine (came ++ b ∷ []) true false true []
  word_ends other is =
      let line = longer other in
      record {
        begins = begins;
        ends = sym other ∙ ends;
        spaced = sym (ap has_space line ∙ any_more (λ byte. byte == 32) (first_line_of (http_text came)) b ∙ ap (λ (t : Bool). has_space (first_line_of (http_text came)) || t) is ∙ or_true (has_space (first_line_of (http_text came))));
        last = sym (ap (λ (l : List ℕ). take 10 (last_word l)) line ∙ ap (take 10) (word_anew (first_line_of (http_text came)) b is));
      }
    where
      or_true : (t : Bool) → (t || true) ≡ true
      or_true true = refl
      or_true false = refl

  -- any other byte is one of its word
  pub word_goes_on : (b == 10) ≡ false → (b == 32) ≡ false → (new : List ℕ) → ((w : List ℕ) → word ≡ take 10 w → new ≡ take 10 (w ++ b ∷ [])) → KnowsLine (came ++ b ∷ []) true false space new
  word_goes_on other no_space new keeps =
      let line = longer other in
      record {
        begins = begins;
        ends = sym other ∙ ends;
        spaced = k.spaced ∙ sym (ap has_space line ∙ any_more (λ byte. byte == 32) (first_line_of (http_text came)) b ∙ ap (λ (t : Bool). has_space (first_line_of (http_text came)) || t) no_space ∙ or_false (has_space (first_line_of (http_text came))));
        last = keeps (last_word (first_line_of (http_text came))) k.last ∙ sym (ap (λ (l : List ℕ). take 10 (last_word l)) line ∙ ap (take 10) (word_more (first_line_of (http_text came)) b no_space));
      }
    where
      or_false : (t : Bool) → (t || false) ≡ t
      or_false true = refl
      or_false false = refl

-- what is no text is a break before it
pub is_break_before : (begun breaks : Bool) → (begun || not breaks) ≡ false → (begun ≡ false) × (breaks ≡ true)
is_break_before true breaks is = absurd (cc is)
is_break_before false true is = (refl, refl)
is_break_before false false is = absurd (cc is)

pub is_no_break : (begun breaks : Bool) → (begun || not breaks) ≡ true → begun ≡ false → breaks ≡ false
is_no_break true breaks is other = absurd (cc other)
is_no_break false true is other = absurd (cc is)
is_no_break false false is other = refl
