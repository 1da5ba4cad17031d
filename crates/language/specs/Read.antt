-- Reading a rule: document 01, "Checks in order". "the words are read from first to last, and the first fault met is the reply."
-- A place is the index of a word. Document 02, Wish 1: "Refusals 3 to 8 shall carry the place of the word tested, counted from 0; 3 carries the
-- number of words given. All other refusals carry place 0."; and Wish 4: "18, with its place". Wish 13: "every call on words is told" the version: S
-- is what it is told besides the words.
use Rattle.std.specs.Prelude.{ℕ, zero, suc, ◌+◌, ◌*◌, ◌%◌, cond, List, [], ◌∷◌, ◌++◌, ltb, leb, eqb, length, get_or}
use Rattle.language.specs.declared.Parts.{Parts}
use Rattle.language.specs.declared.Parts.TheVariants.{Nothing, Body, FunctionAndArguments, BoundAndBody, CountAndArguments, SubjectAndArms, ArityAndBody, HighAndLow, TwoParts}
use Rattle.language.specs.declared.Row.{Row}
use Rattle.language.specs.Term.{Term, Terms, Arms, var, fun, call, bind, con, cases, num, op, nil, cons, none, arm}
use Rattle.language.specs.Setting.{Setting}
use Rattle.language.specs.Kinds.{most_arguments, operands, known, at_term, at_arm, Head, Refused, Opens, head_of}
use Rattle.language.specs.Words.{word_end}
use Rattle.language.specs.Limits.{deepest, most_words}
use Rattle.language.specs.Dead.{dead}

-- "All other refusals carry place 0."
abbrev pub no_place : ℕ
no_place = 0

-- what reading gives: a thing and the place after it, or a fault: its number, and its place
pub data Got (A : Type 0) : Type 0 where
  found : A → ℕ → Got A
  fault : ℕ → ℕ → Got A

-- read on with the thing, from the place after it
unfoldable pub then : {A B : Type 0} → Got A → (A → ℕ → Got B) → Got B
then (found a to) f = f a to
then (fault e p) f = fault e p

-- a larger thing, made of what was read
unfoldable pub made : {A B : Type 0} → (A → B) → Got A → Got B
made g (found a to) = found (g a) to
made g (fault e p) = fault e p

-- the word at a place; 3: "a word is needed and none is left"; "3 carries the number of words given"
abbrev pub word : {A : Type 0} → List ℕ → ℕ → (ℕ → Got A) → Got A
word s at f = cond (ltb at (length s)) (f (get_or s at 0)) (fault 3 (length s))

-- read on with what the head at a place opens
abbrev pub headed : {A : Type 0} → Head → ℕ → (Row → Got A) → Got A
headed (Refused e) at g = fault e at
headed (Opens r) at g = g r

-- "At a second word: 3, 5."
unfoldable pub second : List ℕ → ℕ → Got ℕ
second s at = word s at (λ w. cond (leb w most_arguments) (found w (at + 1)) (fault 5 at))

-- a number's two words, "high first"; they "are tested for 3 only"
unfoldable pub number : List ℕ → ℕ → Got ℕ
number s at = word s at (λ h. word s (at + 1) (λ l. found (h * word_end + l) (at + 1 + 1)))

-- k terms one after the other; p reads one
unfoldable pub many : (ℕ → Got Term) → ℕ → ℕ → Got Terms
many p zero at = found nil at
many p (suc k) at = then (p at) (λ t to. made (cons t) (many p k to))

-- the second word of an arm with the tag t, its arity; the arms before it in its match have the tags and arities `before`. Document 02, Wish 4:
-- "18, with its place, at an arm's second word after 3 and 5, before its body"
unfoldable pub unlike : List ℕ → List (ℕ × ℕ) → ℕ → ℕ → Got ℕ
unlike s before t at = then (second s at) (λ m to. cond (dead t m before) (fault 18 at) (found m to))

-- the rest of an arm with the tag t, from its second word on: its arity, and its body under as many source variables more; and q reads the arms behind
-- it, told the tags and arities up to there. p reads a body under so many source variables
abbrev pub arm_of : List ℕ → (ℕ → ℕ → Got Term) → (List (ℕ × ℕ) → ℕ → Got Arms) → List (ℕ × ℕ) → ℕ → ℕ → ℕ → Got Arms
arm_of s p q before n t at =
    then (unlike s before t at) (λ m to. then (p (n + m) to) (λ b past. made (arm t m b) (q (before ++ ((t, m) ∷ [])) past)))

-- k arms one after the other, behind those that have the tags and arities `before`, under n source variables. "At an arm's head: 3, 4, 5."
unfoldable pub arms_of : Setting → List ℕ → (ℕ → ℕ → Got Term) → List (ℕ × ℕ) → ℕ → ℕ → ℕ → Got Arms
arms_of S s p before n zero at = found none at
arms_of S s p before n (suc k) at =
    word s at (λ w. headed (head_of S.version at_arm w) at (λ r. arm_of s p (λ all. arms_of S s p all n k) before n (w % 256) (at + 1)))

-- the term whose head, at a place, has the low byte a and these parts, and whose body has o source variables besides its arguments; it
-- stands under n source variables, and p reads a part under so many. 7: "variable index not below the number of source variables bound there".
-- An arm's parts are no term's: `head_of` refuses such a head before.
unfoldable pub opened : Setting → List ℕ → (ℕ → ℕ → Got Term) → ℕ → ℕ → ℕ → ℕ → Parts → Got Term
opened S s p n at a o Nothing = cond (ltb a n) (found (var a) (at + 1)) (fault 7 at)
opened S s p n at a o Body = made (fun o a) (p (n + a + o) (at + 1))
opened S s p n at a o FunctionAndArguments = then (p n (at + 1)) (λ f to. made (call f) (many (p n) a to))
opened S s p n at a o BoundAndBody = then (p n (at + 1)) (λ m to. made (bind m) (p (n + o) to))
opened S s p n at a o CountAndArguments = then (second s (at + 1)) (λ m to. made (con a) (many (p n) m to))
opened S s p n at a o SubjectAndArms = then (p n (at + 1)) (λ m to. made (cases m) (arms_of S s p [] n a to))
opened S s p n at a o ArityAndBody = fault 4 at
opened S s p n at a o HighAndLow = made num (number s (at + 1))
opened S s p n at a o TwoParts = made (op a) (many (p n) operands (at + 1))

-- a term at a place, with d levels of depth left, under n source variables. "At a term's head the tests are 3, 6, 4, 5, 7."
unfoldable pub term : Setting → List ℕ → ℕ → ℕ → ℕ → Got Term
term S s zero n at = word s at (λ w. fault 6 at)
term S s (suc d) n at =
    word s at (λ w. headed (head_of S.version at_term w) at (λ r. opened S s (term S s d) n at (w % 256) r.binds r.parts))

-- what reading a sequence of words as a rule comes to: its term, or the refusal's number and its place
pub data Reading : Type 0 where
  accepted : Term → Reading
  refused : ℕ → ℕ → Reading

abbrev pub reading : Got Term → Reading
reading (found t to) = accepted t
reading (fault e p) = refused e p

-- "Lengths first: 1, then 2. Then the words are read from first to last": the closed term at a place, at full depth. 11, "neither 1 nor 2", is tested
-- "before 1"
unfoldable pub closed : Setting → List ℕ → ℕ → Got Term
closed S s at =
    cond (known S.version)
    (cond (eqb (length s) 0) (fault 1 no_place) (cond (ltb most_words (length s)) (fault 2 no_place) (term S s deepest 0 at)))
    (fault 11 no_place)

-- "After the rule's last word: 8."; "words left over; the first of them is the word tested"
unfoldable pub ended : List ℕ → Term → ℕ → Got Term
ended s t to = cond (ltb to (length s)) (fault 8 to) (found t to)

unfoldable pub read : Setting → List ℕ → Reading
read S s = reading (then (closed S s 0) (ended s))
