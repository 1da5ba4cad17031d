-- An image's run under a ration of applications in so many records: document 02, Wish 2, "Run it in the tick". It is said of flat images
-- (specs/Flat.antt): there a part is an atom, and to come to its value is to take its words. Nothing is put into terms: what is bound is kept
-- beside them, as the controller does it.
use Rattle.std.specs.Prelude.{ℕ, zero, suc, ◌+◌, ◌-◌, ◌%◌, cond, eqb, leb, ltb}
use Rattle.std.proofs.Math.Option.{Option, some, none as nothing}
use Rattle.language.specs.Term.{Term, Terms, Arms, var, kvar, fun, call, bind, con, cases, num, op, nil, cons, none, arm}
use Rattle.language.specs.Sub.{sub}
use Rattle.language.specs.Run.{both, number_end}

-- The values of such a run. c-fun o a b ks xs: the function `fun o a b`, whose words were taken where ks and xs were bound to the continuation
-- variables and to the source variables, innermost first. c-con t cs: the constructor with the tag t and the arguments cs. c-num n: the number n.
mutual
  pub data Closure : Type 0 where
    c_fun : ℕ → ℕ → Term → Closures → Closures → Closure
    c_con : ℕ → Closures → Closure
    c_num : ℕ → Closure

  pub data Closures : Type 0 where
    c_nil : Closures
    c_cons : Closure → Closures → Closures

-- the closed term that a closure stands for: what was bound is put in
unfoldable mutual
  pub as_term : Closure → Term
  as_term (c_fun o a b ks xs) = sub 0 0 (as_terms ks) (as_terms xs) (fun o a b)
  as_term (c_con t cs) = con t (as_terms cs)
  as_term (c_num n) = num n

  pub as_terms : Closures → Terms
  as_terms c_nil = nil
  as_terms (c_cons c cs) = cons (as_term c) (as_terms cs)

-- what `size`, `rev` and `itself` are for terms: how many; last first, before the closures acc; a function's names for itself, before the closures xs
unfoldable pub sizeᶜ : Closures → ℕ
sizeᶜ c_nil = 0
sizeᶜ (c_cons c cs) = suc (sizeᶜ cs)

unfoldable pub revᶜ : Closures → Closures → Closures
revᶜ c_nil acc = acc
revᶜ (c_cons c cs) acc = revᶜ cs (c_cons c acc)

unfoldable pub itselfᶜ : ℕ → Closure → Closures → Closures
itselfᶜ zero f xs = xs
itselfᶜ (suc o) f xs = c_cons f (itselfᶜ o f xs)

-- what stands where a closed flat term never looks
abbrev nought : Closure
nought = c_con 0 c_nil

-- the i-th of the values bound
unfoldable pub held : Closures → ℕ → Closure
held c_nil i = nought
held (c_cons c cs) zero = c
held (c_cons c cs) (suc i) = held cs i

-- the value as which an atom's words are taken
unfoldable mutual
  unfolding held

  pub value : Term → Closures → Closures → Closure
  value (var i) ks xs = held xs i
  value (kvar i) ks xs = held ks i
  value (fun o a b) ks xs = c_fun o a b ks xs
  value (call f ps) ks xs = nought
  value (bind m b) ks xs = nought
  value (con t ps) ks xs = c_con t (values ps ks xs)
  value (cases m ps) ks xs = nought
  value (num n) ks xs = c_num n
  value (op o ps) ks xs = nought

  pub values : Terms → Closures → Closures → Closures
  values nil ks xs = c_nil
  values (cons t ts) ks xs = c_cons (value t ks xs) (values ts ks xs)

-- the records that this takes: one "for each function or constructor whenever its words are taken as a value, a constructor's arguments included, a
-- function's body not"; "A number takes a record too" (Wish 13); none for a variable's words
unfoldable mutual
  pub takes : Term → ℕ
  takes (var i) = 0
  takes (kvar i) = 0
  takes (fun o a b) = 1
  takes (call f ps) = 0
  takes (bind m b) = 0
  takes (con t ps) = suc (takesᵗ ps)
  takes (cases m ps) = 0
  takes (num n) = 1
  takes (op o ps) = 0

  pub takesᵗ : Terms → ℕ
  takesᵗ nil = 0
  takesᵗ (cons t ts) = takes t + takesᵗ ts

-- A turn is the run up to the next call: the records that are taken on the way, and how it ends. comes c: in the value c. stuck: where no rule
-- applies. goes n ks xs b: in a call whose rule applies; it will bind n values, and go on with the body b where ks and xs are bound.
pub data End : Type 0 where
  comes : Closure → End
  stuck : End
  goes : ℕ → Closures → Closures → Term → End

pub record Turn : Type 0 where
  pub records : ℕ
  pub end : End

abbrev pub ends : End → Turn
ends e = record { records = 0; end = e }

-- n records are taken first
unfoldable pub after : ℕ → Turn → Turn
after n s = record { records = n + s.records; end = s.end }

-- "A value comes to itself": its words are taken
unfoldable pub whole : Term → Closures → Closures → Turn
unfolding value takes after
whole t ks xs = after (takes t) (ends (comes (value t ks xs)))

-- A call, once its parts are values: its rule applies if what is called is "a function with exactly that many arguments". "In an image the first
-- argument of a function is k_0 and the others are source variables", "x_0 is the last argument", and a function's names for itself stand behind
-- them. "One record is used for each value bound, a recursive name included".
unfoldable pub apply : Closure → Closures → End
unfolding sizeᶜ revᶜ itselfᶜ
apply (c_con t cs) us = stuck
apply (c_num n) us = stuck
apply (c_fun o a b ks xs) c_nil = stuck
apply (c_fun o a b ks xs) (c_cons k us) =
    cond (eqb (sizeᶜ us) a) (goes (1 + a + o) (c_cons k ks) (revᶜ us (itselfᶜ o (c_fun o a b ks xs) xs)) b) stuck

-- What the operation o gives on two numbers: document 02, Wish 13, as `Gives` has it of terms
unfoldable pub given : ℕ → ℕ → ℕ → Option Closure
given zero a b = some (c_num ((a + b) % number_end))
given (suc zero) a b = some (c_num ((a + (number_end - b)) % number_end))
given (suc (suc zero)) a b = some (c_con (cond (ltb a b) 1 0) c_nil)
given (suc (suc (suc o))) a b = nothing

-- "An operation on anything but numbers has no value."
unfoldable pub on_numbers : ℕ → Closure → Closure → Option Closure
unfolding given
on_numbers o (c_num a) (c_num b) = given o a b
on_numbers o (c_num a) (c_con t cs) = nothing
on_numbers o (c_num a) (c_fun o' a' b ks xs) = nothing
on_numbers o (c_con t cs) d = nothing
on_numbers o (c_fun o' a b ks xs) d = nothing

-- "an operation on two parts"
unfoldable pub operated : ℕ → Closures → Option Closure
unfolding on_numbers
operated o c_nil = nothing
operated o (c_cons c c_nil) = nothing
operated o (c_cons c (c_cons d c_nil)) = on_numbers o c d
operated o (c_cons c (c_cons d (c_cons e cs))) = nothing

-- the operation, with its parts, that a term is, and that a call's only argument is
unfoldable pub operation : Term → Option (ℕ × Terms)
operation (var i) = nothing
operation (kvar i) = nothing
operation (fun o a b) = nothing
operation (call f ps) = nothing
operation (bind m b) = nothing
operation (con t ps) = nothing
operation (cases m ps) = nothing
operation (num n) = nothing
operation (op o ps) = some (o, ps)

unfoldable pub sole : Terms → Option (ℕ × Terms)
unfolding operation
sole nil = nothing
sole (cons p nil) = operation p
sole (cons p (cons q ps)) = nothing

-- What an operation gave is handed to the value c. Where it has no value no rule applies. Else it takes a record, "like a built constructor", and the
-- call goes on with what it gave. It is no call itself, so no ration is asked for.
unfoldable pub handed : Closure → Option Closure → Turn
unfolding apply after
handed c nothing = ends stuck
handed c (some v) = after 1 (ends (apply c (c_cons v c_nil)))

-- a call's arguments, once what is called is the value c: one operation, or atoms
unfoldable pub passed : Closure → Option (ℕ × Terms) → Terms → Closures → Closures → Turn
unfolding value takes apply after operated handed
passed c (some q) ps ks xs = after (takesᵗ q.1) (handed c (operated q.0 (values q.1 ks xs)))
passed c nothing ps ks xs = after (takesᵗ ps) (ends (apply c (values ps ks xs)))

-- The turn of the term t where ks and xs are bound. At each use of a rule its parts take their records, in the order of their words; then 14 is the
-- reply if no rule applies; then a let takes one record, for its value, and a match one for each argument of the arm. (A call's own records
-- are taken when it is made: see `next`.)
unfoldable mutual
  unfolding value takes apply after whole sole passed

  pub turn : Term → Closures → Closures → Turn
  turn (var i) ks xs = whole (var i) ks xs
  turn (kvar i) ks xs = whole (kvar i) ks xs
  turn (fun o a b) ks xs = whole (fun o a b) ks xs
  turn (call f ps) ks xs = after (takes f) (passed (value f ks xs) (sole ps) ps ks xs)
  turn (bind m b) ks xs = after (takes m) (after 1 (turn b ks (c_cons (value m ks xs) xs)))
  turn (con t ps) ks xs = whole (con t ps) ks xs
  turn (cases m ps) ks xs = after (takes m) (turnᵃ ps ks xs (value m ks xs))
  turn (num n) ks xs = whole (num n) ks xs
  turn (op o ps) ks xs = whole (op o ps) ks xs

  -- "the first arm that has both the tag and the arity"; a function has no arm, nor has a number
  pub turnᵃ : Arms → Closures → Closures → Closure → Turn
  turnᵃ none ks xs c = ends stuck
  turnᵃ (arm t n b ps) ks xs (c_fun o a b' js ys) = ends stuck
  turnᵃ (arm t n b ps) ks xs (c_num i) = ends stuck
  turnᵃ (arm t n b ps) ks xs (c_con t' cs) = cond (both t' (sizeᶜ cs) t n) (after n (turn b ks (revᶜ cs xs))) (turnᵃ ps ks xs (c_con t' cs))

-- the replies: finished with a value, or out of ration, "each with the applications used"; 14, "no rule applies"; 13, "no record left"
pub data Outcome : Type 0 where
  finished : Closure → ℕ → Outcome
  out_of_ration : ℕ → Outcome
  no_rule no_record : Outcome

-- n of the l records that are left are taken, and it goes on with the others; "none is used again within a run"
unfoldable pub spend : ℕ → ℕ → (ℕ → Outcome) → Outcome
spend n l go = cond (leb n l) (go (l - n)) no_record

-- What follows a turn that has its records and ends so, where u applications were made before, r more are allowed, and l records are left: "14 (no
-- rule applies), out of ration, 13 (no record left)". A call that is made is one application; it takes a record for each value that it binds,
-- and the next turn takes its own.
unfoldable pub next : ℕ → ℕ → ℕ → End → Outcome
unfolding spend turn
next zero u l (comes c) = finished c u
next zero u l stuck = no_rule
next zero u l (goes n ks xs b) = out_of_ration u
next (suc r) u l (comes c) = finished c u
next (suc r) u l stuck = no_rule
next (suc r) u l (goes n ks xs b) = let s = after n (turn b ks xs) in spend s.records l (λ l'. next r (suc u) l' s.end)

-- the run from the turn s on. Before its end a turn has no other reply than 13, so its records are asked for in one sum; that this is the same run as
-- asking at each use is promised as `AlwaysInOrder`
unfoldable pub tick_from : ℕ → ℕ → ℕ → Turn → Outcome
unfolding spend next
tick_from r u l s = spend s.records l (λ l'. next r u l' s.end)

-- the run of the closed flat image t under the ration r in l records
unfoldable pub tick : ℕ → ℕ → Term → Outcome
unfolding tick_from turn
tick r l t = tick_from r 0 l (turn t c_nil c_nil)
