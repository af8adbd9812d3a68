-- Which connections begin as a request of HTTP (RFC 9110, section 9; RFC 9112, section 3).
use Rattle.std.specs.Prelude.{ℕ, Bool, List, [], ◌∷◌, ◌==◌, ◌&&◌, ◌||◌, nat_le, codes, if◌then◌else◌, length, take, get_or}
use Rattle.std.specs.List.{list_any, starts_with}

-- the methods that a browser sends by itself, each with the space after it
abbrev pub methods : List (List ℕ)
methods =
    codes "GET " ∷ codes "HEAD " ∷ codes "POST " ∷ codes "PUT " ∷ codes "DELETE " ∷ codes "CONNECT " ∷ codes "OPTIONS " ∷ codes "TRACE "
    ∷ codes "PATCH " ∷ codes "PRI " ∷ []

-- one of them is a prefix of what came
abbrev pub begins_with_method : List ℕ → Bool
begins_with_method came = list_any (λ method. starts_with ◌==◌ came method) methods

-- LF or CR
abbrev pub is_break : ℕ → Bool
is_break byte = (byte == 10) || (byte == 13)

-- what came, without the empty lines before it
abbrev pub http_text : List ℕ → List ℕ
http_text [] = []
http_text (byte ∷ came) = if is_break byte then http_text came else (byte ∷ came)

-- the first line of a text, as far as it came, without its LF
abbrev pub first_line_of : List ℕ → List ℕ
first_line_of [] = []
first_line_of (byte ∷ text) = if byte == 10 then [] else (byte ∷ first_line_of text)

-- that line is whole
abbrev pub is_whole : List ℕ → Bool
is_whole text = list_any (λ byte. byte == 10) text

abbrev pub has_space : List ℕ → Bool
has_space line = list_any (λ byte. byte == 32) line

-- the bytes after the last space of a line
abbrev pub last_word : List ℕ → List ℕ
last_word [] = []
last_word (byte ∷ line) = if has_space line then last_word line else (if byte == 32 then line else (byte ∷ line))

abbrev pub is_digit : ℕ → Bool
is_digit byte = nat_le 48 byte && nat_le byte 57

-- `HTTP/`, a digit, a dot and a digit
abbrev pub is_version : List ℕ → Bool
is_version word =
    (length word == 8) && starts_with ◌==◌ word (codes "HTTP/") && is_digit (get_or word 5 0) && (get_or word 6 0 == 46) && is_digit (get_or word 7 0)

-- the same, where a CR may stand after it
abbrev pub ends_request : List ℕ → Bool
ends_request word = is_version word || ((length word == 9) && (get_or word 8 0 == 13) && is_version (take 8 word))

-- a line that ends by a space and a version of HTTP
abbrev pub is_request : List ℕ → Bool
is_request line = has_space line && ends_request (last_word line)

-- what came begins with such a method, or its first line that isn't empty is such a line
abbrev pub begins_as_http : List ℕ → Bool
begins_as_http came = begins_with_method came || (is_whole (http_text came) && is_request (first_line_of (http_text came)))
