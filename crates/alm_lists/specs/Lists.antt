-- Lists of numbers: their members, their neighbours, and how they change.
use Rattle.std.specs.Prelude.{ℕ, ◌+◌, List, [], ◌∷◌, Bool, true, false, not, Option, Some, None, filter, nat_lt, ◌==◌, if◌then◌else◌}

-- how often a number is in a list
abbrev pub times : ℕ → List ℕ → ℕ
times n [] = 0
times n (x ∷ xs) = if n == x then 1 + times n xs else times n xs

-- whether a number is in a list
abbrev pub stands : ℕ → List ℕ → Bool
stands n [] = false
stands n (x ∷ xs) = if n == x then true else stands n xs

-- a list without a number
abbrev pub list_without : ℕ → List ℕ → List ℕ
list_without n xs = filter (λ x. not (n == x)) xs

-- a list with a number put before another
abbrev pub put_before : ℕ → ℕ → List ℕ → List ℕ
put_before at n [] = []
put_before at n (x ∷ xs) = if at == x then n ∷ x ∷ xs else x ∷ put_before at n xs

-- a list with a number inserted ahead of the first number that has a greater key, or at the end if no number has
abbrev pub put_by : (ℕ → ℕ) → ℕ → List ℕ → List ℕ
put_by key n [] = n ∷ []
put_by key n (x ∷ xs) = if nat_lt (key n) (key x) then n ∷ x ∷ xs else x ∷ put_by key n xs

-- the first number of a list
abbrev pub first_of : List ℕ → Option ℕ
first_of [] = None
first_of (x ∷ xs) = Some x

-- the last number of a list; if it is empty, the one before it
abbrev pub last_from : Option ℕ → List ℕ → Option ℕ
last_from before [] = before
last_from before (x ∷ xs) = last_from (Some x) xs

-- the number after another in a list
abbrev pub after_in : ℕ → List ℕ → Option ℕ
after_in n [] = None
after_in n (x ∷ xs) = if n == x then first_of xs else after_in n xs

-- the number before another in a list; for the first of the list, the one before the list
abbrev pub before_from : Option ℕ → ℕ → List ℕ → Option ℕ
before_from before n [] = None
before_from before n (x ∷ xs) = if n == x then before else before_from (Some x) n xs
