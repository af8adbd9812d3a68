-- What begins as a request of HTTP goes on as one.
use Rattle.std.proofs.Common.{◌≡◌, ℕ, Bool, true, false, List, [], ◌∷◌, ◌++◌, refl, sym, ap, ◌∙◌}
use Rattle.std.specs.Prelude.{◌==◌, ◌||◌, ◌&&◌, if◌then◌else◌}
use Rattle.std.specs.List.{list_any, starts_with}
use Rattle.alm_serve.specs.Http.{begins_as_http, begins_with_method, first_line_of, http_text, is_break, is_request, is_whole, methods}
use Rattle.alm_serve.specs.Beginnings.{is_some}

either_stays : (s t s' t' : Bool) → (s ≡ true → s' ≡ true) → (t ≡ true → t' ≡ true) → (s || t) ≡ true → (s' || t') ≡ true
either_stays true t s' t' f g is = ap (λ (x : Bool). x || t') (f refl)
either_stays false t true t' f g is = refl
either_stays false t false t' f g is = g is

both_are : (s t : Bool) → (s && t) ≡ true → (s ≡ true) × (t ≡ true)
both_are true t is = (refl, is)
both_are false t is = absurd (cc is)

-- a prefix of what came is one of what came up to later
prefix_stays : (m came more : List ℕ) → starts_with ◌==◌ came m ≡ true → starts_with ◌==◌ (came ++ more) m ≡ true
prefix_stays [] came more is = refl
prefix_stays (x ∷ m) [] more is = absurd (cc is)
prefix_stays (x ∷ m) (y ∷ came) more is = go (x == y) is (prefix_stays m came more)
  where
    go : (t : Bool) → (t && starts_with ◌==◌ came m) ≡ true → (starts_with ◌==◌ came m ≡ true → starts_with ◌==◌ (came ++ more) m ≡ true) → (t && starts_with ◌==◌ (came ++ more) m) ≡ true
    go true is stays = stays is
    go false is stays = is

method_stays : (ms : List (List ℕ)) (came more : List ℕ) → list_any (λ m. starts_with ◌==◌ came m) ms ≡ true → list_any (λ m. starts_with ◌==◌ (came ++ more) m) ms ≡ true
method_stays [] came more is = is
method_stays (m ∷ ms) came more is =
    either_stays (starts_with ◌==◌ came m) (list_any (λ n. starts_with ◌==◌ came n) ms) (starts_with ◌==◌ (came ++ more) m) (list_any (λ n. starts_with ◌==◌ (came ++ more) n) ms)
    (prefix_stays m came more) (method_stays ms came more) is

-- a text that has begun goes on
text_stays : (came more : List ℕ) → is_some (http_text came) ≡ true → http_text (came ++ more) ≡ http_text came ++ more
text_stays [] more is = absurd (cc is)
text_stays (c ∷ came) more is = go (is_break c) is (text_stays came more)
  where
    go : (t : Bool) → is_some (if t then http_text came else (c ∷ came)) ≡ true → (is_some (http_text came) ≡ true → http_text (came ++ more) ≡ http_text came ++ more)
        → (if t then http_text (came ++ more) else (c ∷ (came ++ more))) ≡ (if t then http_text came else (c ∷ came)) ++ more
    go true is stays = stays is
    go false is stays = refl

whole_some : (text : List ℕ) → is_whole text ≡ true → is_some text ≡ true
whole_some [] is = absurd (cc is)
whole_some (c ∷ text) is = refl

whole_stays : (text more : List ℕ) → is_whole text ≡ true → is_whole (text ++ more) ≡ true
whole_stays [] more is = absurd (cc is)
whole_stays (c ∷ text) more is = either_stays (c == 10) (is_whole text) (c == 10) (is_whole (text ++ more)) (λ e. e) (whole_stays text more) is

-- a line that is whole stays as it is
line_stays : (text more : List ℕ) → is_whole text ≡ true → first_line_of (text ++ more) ≡ first_line_of text
line_stays [] more is = absurd (cc is)
line_stays (c ∷ text) more is = go (c == 10) is (line_stays text more)
  where
    go : (t : Bool) → (t || is_whole text) ≡ true → (is_whole text ≡ true → first_line_of (text ++ more) ≡ first_line_of text) → (if t then [] else (c ∷ first_line_of (text ++ more))) ≡ (if t then [] else (c ∷ first_line_of text))
    go true is stays = refl
    go false is stays = ap (λ (l : List ℕ). c ∷ l) (stays is)

request_stays : (came more : List ℕ) → (is_whole (http_text came) && is_request (first_line_of (http_text came))) ≡ true
    → (is_whole (http_text (came ++ more)) && is_request (first_line_of (http_text (came ++ more)))) ≡ true
request_stays came more is =
    let both = both_are (is_whole (http_text came)) (is_request (first_line_of (http_text came))) is in
    ap (λ (t : List ℕ). is_whole t && is_request (first_line_of t)) (text_stays came more (whole_some (http_text came) both.0))
    ∙ ap (λ (w : Bool). w && is_request (first_line_of (http_text came ++ more))) (whole_stays (http_text came) more both.0)
    ∙ ap is_request (line_stays (http_text came) more both.0)
    ∙ both.1

http_stays : (came more : List ℕ) → begins_as_http came ≡ true → begins_as_http (came ++ more) ≡ true
http_stays came more is =
    either_stays (begins_with_method came) (is_whole (http_text came) && is_request (first_line_of (http_text came)))
    (begins_with_method (came ++ more)) (is_whole (http_text (came ++ more)) && is_request (first_line_of (http_text (came ++ more))))
    (method_stays methods came more) (request_stays came more) is

-- what came before is no request, if all that came is none
pub plain_before : (came more : List ℕ) → begins_as_http (came ++ more) ≡ false → begins_as_http came ≡ false
plain_before came more is = go (begins_as_http came) (http_stays came more)
  where
    go : (t : Bool) → (t ≡ true → begins_as_http (came ++ more) ≡ true) → t ≡ false
    go true stays = absurd (cc (sym (stays refl) ∙ is))
    go false stays = refl
