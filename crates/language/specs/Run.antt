-- How a rule and an image run: document 01, "How a rule runs". One relation serves both languages: "Images run by the same rules with
-- two numberings; a call there is one application."
use Rattle.std.specs.Prelude.{ℕ, zero, suc, ◌+◌, ◌-◌, ◌%◌, ◌^◌, Bool, true, false, ◌&&◌, cond, ◌≡◌, eqb, ltb}
use Rattle.std.proofs.Math.Option.{Option, some, none as nothing}
use Rattle.language.specs.Term.{Lang, rules, images, Term, Terms, Arms, var, kvar, fun, call, bind, con, cases, num, op, nil, cons, none, arm, size}
use Rattle.language.specs.Sub.{sub}

-- "An atom is a variable, a function, a recursive function, or a constructor whose arguments are all atoms." Document 02,
-- Wish 13: "A number is an atom. An operation never is".
unfoldable mutual
  pub atom : Term → Bool
  atom (var i) = true
  atom (kvar i) = true
  atom (fun o a b) = true
  atom (call f ps) = false
  atom (bind m b) = false
  atom (con t ps) = atoms ps
  atom (cases m ps) = false
  atom (num n) = true
  atom (op o ps) = false

  pub atoms : Terms → Bool
  atoms nil = true
  atoms (cons t ts) = atom t && atoms ts

-- "A closed atom is a value": one in which no variable stands outside a function
mutual
  pub data Value : Term → Type 0 where
    v_fun : {o a : ℕ} {b : Term} → Value (fun o a b)
    v_con : {t : ℕ} {ps : Terms} → Values ps → Value (con t ps)
    v_num : {n : ℕ} → Value (num n)

  pub data Values : Terms → Type 0 where
    v_nil : Values nil
    v_cons : {t : Term} {ts : Terms} → Value t → Values ts → Values (cons t ts)

-- terms to go in for continuation variables and terms to go in for source variables, where the latter are "exactly that many", a
unfoldable pub counted : ℕ → Terms → Terms → Option (Terms × Terms)
counted a ks xs = cond (eqb (size xs) a) (some (ks, xs)) nothing

-- what goes in where a function of a source arguments is called with the arguments vs; nothing where the arguments are not that many. "In an
-- image the first argument of a function is k_0 and the others are source variables"
unfoldable pub enters : Lang → ℕ → Terms → Option (Terms × Terms)
unfolding counted
enters rules a vs = counted a nil vs
enters images a nil = nothing
enters images a (cons v vs) = counted a (cons v nil) vs

-- the arguments last first, before the terms acc: "x_0 is the last argument"
unfoldable pub rev : Terms → Terms → Terms
rev nil acc = acc
rev (cons t ts) acc = rev ts (cons t acc)

-- a function's names for itself stand behind its arguments: "x_a in its body"
unfoldable pub itself : ℕ → Term → Terms
itself zero f = nil
itself (suc o) f = cons f (itself o f)

-- whether an arm with the tag t' and the arity n' has "both the tag and the arity" of a constructor value with the tag t and n arguments: document 02,
-- Wish 3
abbrev pub both : ℕ → ℕ → ℕ → ℕ → Bool
both t n t' n' = eqb t t' && eqb n n'

-- the body of the arm that a constructor value with the tag t and n arguments takes: "the first arm that has both the tag and the arity", "for
-- rules and images alike"; where no arm has both, there is no value
unfoldable pub took : ℕ → ℕ → Arms → Option Term
took t n none = nothing
took t n (arm t' n' b ps) = cond (both t n t' n') (some b) (took t n ps)

-- one more than the highest number: "modulo 2 to the 32"
abbrev pub number_end : ℕ
number_end = 2 ^ 32

-- `Gives o vs v`: the operation o on the values vs gives v. Document 02, Wish 13: "0 adds, 1 subtracts, both modulo 2 to the 32, and 2 asks whether
-- the first is less, giving tag 1 if so, else tag 0, without arguments". "An operation on anything but numbers has no value."
pub data Gives : ℕ → Terms → Term → Type 0 where
  adds : {a b : ℕ} → Gives 0 (cons (num a) (cons (num b) nil)) (num ((a + b) % number_end))
  subtracts : {a b : ℕ} → Gives 1 (cons (num a) (cons (num b) nil)) (num ((a + (number_end - b)) % number_end))
  less : {a b : ℕ} → Gives 2 (cons (num a) (cons (num b) nil)) (con (cond (ltb a b) 1 0) nil)

-- `Run L t v`: by the rules of L the closed term t comes to the value v.
-- taken: "A value comes to itself." built: "A constructor that is not an atom: each argument comes to a value; the result is the
-- constructor of these". bound: "the bound term's value goes in for x_0 of the body." called: "the applied term comes to a function with
-- exactly that many arguments, the arguments come to values, and the body runs with these (and itself, if recursive)." matched: "the subject
-- comes to a constructor value." operated: the parts come to values, as a constructor's do, and the operation gives the result.
mutual
  pub data Run (L : Lang) : Term → Term → Type 0 where
    taken : {v : Term} → Value v → Run L v v
    built : {t : ℕ} {ps vs : Terms} → atoms ps ≡ false → Runs L ps vs → Run L (con t ps) (con t vs)
    bound : {m b v w : Term} → Run L m v → Run L (sub 0 0 nil (cons v nil) b) w → Run L (bind m b) w
    called : {o a : ℕ} {f b w : Term} {ps vs ks xs : Terms} → Run L f (fun o a b) → Runs L ps vs → enters L a vs ≡ some (ks, xs)
        → Run L (sub 0 0 ks (rev xs (itself o (fun o a b))) b) w → Run L (call f ps) w
    matched : {m b w : Term} {t : ℕ} {vs : Terms} {ps : Arms} → Run L m (con t vs) → took t (size vs) ps ≡ some b
        → Run L (sub 0 0 nil (rev vs nil) b) w → Run L (cases m ps) w
    operated : {o : ℕ} {ps vs : Terms} {v : Term} → Runs L ps vs → Gives o vs v → Run L (op o ps) v

  -- "Parts come to values in the order of their words"
  pub data Runs (L : Lang) : Terms → Terms → Type 0 where
    done : Runs L nil nil
    then : {t v : Term} {ts vs : Terms} → Run L t v → Runs L ts vs → Runs L (cons t ts) (cons v vs)

-- how often each rule is used: values taken whole, calls, lets, matches, and constructors built from unfinished parts; an operation "counts as one"
-- of these
pub record Counts : Type 0 where
  pub values : ℕ
  pub calls : ℕ
  pub lets : ℕ
  pub matches : ℕ
  pub builds : ℕ

abbrev pub uses : ℕ → ℕ → ℕ → ℕ → ℕ → Counts
uses v c l m b = record { values = v; calls = c; lets = l; matches = m; builds = b }

infixl 60 ◌⊕◌
abbrev pub ◌⊕◌ : Counts → Counts → Counts
◌⊕◌ c d = uses (c.values + d.values) (c.calls + d.calls) (c.lets + d.lets) (c.matches + d.matches) (c.builds + d.builds)

-- "one value taken whole. Its parts are not counted."
unfoldable mutual
  pub count : {L : Lang} {t v : Term} → Run L t v → Counts
  count (taken x) = uses 1 0 0 0 0
  count (built n r) = uses 0 0 0 0 1 ⊕ counts r
  count (bound r s) = uses 0 0 1 0 0 ⊕ count r ⊕ count s
  count (called f r e s) = uses 0 1 0 0 0 ⊕ count f ⊕ counts r ⊕ count s
  count (matched r k s) = uses 0 0 0 1 0 ⊕ count r ⊕ count s
  count (operated r g) = uses 0 0 0 0 1 ⊕ counts r

  pub counts : {L : Lang} {ts vs : Terms} → Runs L ts vs → Counts
  counts done = uses 0 0 0 0 0
  counts (then r s) = count r ⊕ counts s
