-- How many records a run takes at most: a turn takes no more than the weight of its term, and with what the call before it binds no more than the
-- weight of the function, which the image has somewhere. By induction on the term, and on the ration. Assumes nothing.
use Prim.Native.Nat.{ℕ, zero, suc, ◌+◌, ◌*◌, ◌≤◌}
use mathlib.Core.Bool.{Bool, true, false, cond}
use mathlib.Core.Option.{Option, some, none as nothing}
use native.Mathlib.Omega.{arith}
use lib.Dec.{eqb}
use Rattle.language.specs.Term.{Term, Terms, Arms, var, kvar, fun, call, bind, con, cases, num, op, nil, cons, none, arm}
use Rattle.language.specs.Run.{both}
use Rattle.ticks.specs.Tick.{Closure, Closures, c_fun, c_con, c_num, c_nil, c_cons, sizeᶜ, revᶜ, itselfᶜ, held, value, values, takes, takesᵗ}
use Rattle.ticks.specs.Tick.{End, comes, stuck, goes, Turn, after, ends, whole, apply, given, on_numbers, operated, operation, sole, handed}
use Rattle.ticks.specs.Tick.{passed, turn, turnᵃ}
use Rattle.ticks.specs.Promises.{needs, needed, weight, weightᵗ, weightᵃ, EnoughRecords}

mutual
  unfolding takes weight

  takes_most : (t : Term) → takes t ≤ weight t
  takes_most (var i) = omega arith
  takes_most (kvar i) = omega arith
  takes_most (fun o a b) = omega arith
  takes_most (call f ps) = omega arith
  takes_most (bind m b) = omega arith
  takes_most (con t ps) = omega (arith, takesᵗ_most ps)
  takes_most (cases m ps) = omega arith
  takes_most (num n) = omega arith
  takes_most (op o ps) = omega arith

  takesᵗ_most : (ts : Terms) → takesᵗ ts ≤ weightᵗ ts
  takesᵗ_most nil = omega arith
  takesᵗ_most (cons t ts) = omega (arith, takes_most t, takesᵗ_most ts)

-- an operation that is handed on is one of the arguments, with its record and its parts
abbrev Covered : Option (ℕ × Terms) → ℕ → Type 0
Covered nothing n = Unit {0}
Covered (some q) n = 1 + weightᵗ q.1 ≤ n

operation_covered : (p : Term) → Covered (operation p) (weight p)
unfolding operation weight
operation_covered (var i) = tt
operation_covered (kvar i) = tt
operation_covered (fun o a b) = tt
operation_covered (call f ps) = tt
operation_covered (bind m b) = tt
operation_covered (con t ps) = tt
operation_covered (cases m ps) = tt
operation_covered (num n) = tt
operation_covered (op o ps) = omega arith

covered_more : (q : Option (ℕ × Terms)) {n n' : ℕ} → Covered q n → n ≤ n' → Covered q n'
covered_more nothing h k = tt
covered_more (some q) h k = omega arith

sole_covered : (ps : Terms) → Covered (sole ps) (weightᵗ ps)
unfolding sole weight
sole_covered nil = tt
sole_covered (cons p nil) = covered_more (operation p) (operation_covered p) (omega arith)
sole_covered (cons p (cons q ps)) = tt

-- what is bound holds only functions of so much weight
module _ (w : ℕ) where
  mutual
    data Light : Closure → Type 0 where
      l_fun : {o a : ℕ} {b : Term} {ks xs : Closures} → 1 + a + o + weight b ≤ w → Lights ks → Lights xs → Light (c_fun o a b ks xs)
      l_con : {t : ℕ} {cs : Closures} → Lights cs → Light (c_con t cs)
      l_num : {n : ℕ} → Light (c_num n)

    data Lights : Closures → Type 0 where
      l_nil : Lights c_nil
      l_cons : {c : Closure} {cs : Closures} → Light c → Lights cs → Lights (c_cons c cs)

  data LightEnd : End → Type 0 where
    l_comes : {c : Closure} → LightEnd (comes c)
    l_stuck : LightEnd stuck
    l_goes : {n : ℕ} {ks xs : Closures} {b : Term} → n + weight b ≤ w → Lights ks → Lights xs → LightEnd (goes n ks xs b)

  held_light : {cs : Closures} → Lights cs → (i : ℕ) → Light (held cs i)
  unfolding held
  held_light l_nil i = l_con l_nil
  held_light (l_cons c cs) zero = c
  held_light (l_cons c cs) (suc i) = held_light cs i

  rev_light : {cs acc : Closures} → Lights cs → Lights acc → Lights (revᶜ cs acc)
  unfolding revᶜ
  rev_light l_nil h = h
  rev_light (l_cons c cs) h = rev_light cs (l_cons c h)

  itself_light : (o : ℕ) {f : Closure} {xs : Closures} → Light f → Lights xs → Lights (itselfᶜ o f xs)
  unfolding itselfᶜ
  itself_light zero f h = h
  itself_light (suc o) f h = l_cons f (itself_light o f h)

  module _ {ks xs : Closures} (hk : Lights ks) (hx : Lights xs) where
    mutual
      unfolding value weight

      value_light : (t : Term) → weight t ≤ w → Light (value t ks xs)
      value_light (var i) h = held_light hx i
      value_light (kvar i) h = held_light hk i
      value_light (fun o a b) h = l_fun {o = o} {a = a} {b = b} (omega arith) hk hx
      value_light (call f ps) h = l_con l_nil
      value_light (bind m b) h = l_con l_nil
      value_light (con t ps) h = l_con (values_light ps (omega arith))
      value_light (cases m ps) h = l_con l_nil
      value_light (num n) h = l_num
      value_light (op o ps) h = l_con l_nil

      values_light : (ts : Terms) → weightᵗ ts ≤ w → Lights (values ts ks xs)
      values_light nil h = l_nil
      values_light (cons t ts) h = l_cons (value_light t (omega arith)) (values_light ts (omega arith))

  apply_light : {c : Closure} {cs : Closures} → Light c → Lights cs → LightEnd (apply c cs)
  unfolding apply
  apply_light (l_con cs) us = l_stuck
  apply_light l_num us = l_stuck
  apply_light (l_fun h ks xs) l_nil = l_stuck
  apply_light (l_fun {o} {a} {b} {ks} {xs} h hk hx) (l_cons {c = k} {cs = us} l ls) = by (eqb (sizeᶜ us) a)
    where
      by : (e : Bool) → LightEnd (cond e (goes (1 + a + o) (c_cons k ks) (revᶜ us (itselfᶜ o (c_fun o a b ks xs) xs)) b) stuck)
      by true = l_goes h (l_cons l hk) (rev_light ls (itself_light o (l_fun h hk hx) hx))
      by false = l_stuck

  -- a turn of at most m records
  record LightTurn (m : ℕ) (s : Turn) : Type 0 where
    most : s.records ≤ m
    light : LightEnd s.end

  light_ends : {e : End} → LightEnd e → LightTurn 0 (ends e)
  light_ends h = record { most = omega arith; light = h }

  light_after : {m m' : ℕ} {s : Turn} → LightTurn m s → (n : ℕ) → n + m ≤ m' → LightTurn m' (after n s)
  unfolding after
  light_after s n h = record { most = omega (arith, s.most); light = s.light }

  -- what an operation gives
  abbrev LightOption : Option Closure → Type 0
  LightOption nothing = Unit {0}
  LightOption (some c) = Light c

  given_light : (o a b : ℕ) → LightOption (given o a b)
  unfolding given
  given_light zero a b = l_num
  given_light (suc zero) a b = l_num
  given_light (suc (suc zero)) a b = l_con l_nil
  given_light (suc (suc (suc o))) a b = tt

  numbers_light : (o : ℕ) (c d : Closure) → LightOption (on_numbers o c d)
  unfolding on_numbers
  numbers_light o (c_num a) (c_num b) = given_light o a b
  numbers_light o (c_num a) (c_con t cs) = tt
  numbers_light o (c_num a) (c_fun o' a' b ks xs) = tt
  numbers_light o (c_con t cs) d = tt
  numbers_light o (c_fun o' a b ks xs) d = tt

  operated_light : (o : ℕ) (cs : Closures) → LightOption (operated o cs)
  unfolding operated
  operated_light o c_nil = tt
  operated_light o (c_cons c c_nil) = tt
  operated_light o (c_cons c (c_cons d c_nil)) = numbers_light o c d
  operated_light o (c_cons c (c_cons d (c_cons e cs))) = tt

  handed_light : {c : Closure} (d : Option Closure) → Light c → LightOption d → LightTurn 1 (handed c d)
  unfolding handed
  handed_light nothing g l = record { most = omega arith; light = l_stuck }
  handed_light (some v) g l = light_after (light_ends (apply_light g (l_cons l l_nil))) 1 (omega arith)

  passed_light : (ks xs : Closures) {c : Closure} → Light c → (q : Option (ℕ × Terms)) (ps : Terms) → Covered q (weightᵗ ps) → Lights (values ps ks xs)
      → LightTurn (weightᵗ ps) (passed c q ps ks xs)
  unfolding passed
  passed_light ks xs g nothing ps k l = light_after (light_ends (apply_light g l)) (takesᵗ ps) (omega (arith, takesᵗ_most ps))
  passed_light ks xs g (some q) ps k l =
      let cs = values q.1 ks xs in
      light_after (handed_light (operated q.0 cs) g (operated_light q.0 cs)) (takesᵗ q.1) (omega (arith, takesᵗ_most q.1))

  whole_light : (t : Term) (ks xs : Closures) → LightTurn (weight t) (whole t ks xs)
  unfolding whole after
  whole_light t ks xs = record { most = omega (arith, takes_most t); light = l_comes }

  light_cond : {m m' k : ℕ} (e : Bool) {x y : Turn} → LightTurn m x → LightTurn m' y → m ≤ k → m' ≤ k → LightTurn k (cond e x y)
  light_cond true x y p q = record { most = omega (arith, x.most); light = x.light }
  light_cond false x y p q = record { most = omega (arith, y.most); light = y.light }

  mutual
    unfolding turn sole weight

    turn_light : (t : Term) {ks xs : Closures} → weight t ≤ w → Lights ks → Lights xs → LightTurn (weight t) (turn t ks xs)
    turn_light (var i) {ks} {xs} h hk hx = whole_light (var i) ks xs
    turn_light (kvar i) {ks} {xs} h hk hx = whole_light (kvar i) ks xs
    turn_light (fun o a b) {ks} {xs} h hk hx = whole_light (fun o a b) ks xs
    turn_light (call f ps) {ks} {xs} h hk hx =
        light_after (passed_light ks xs (value_light hk hx f (omega arith)) (sole ps) ps (sole_covered ps) (values_light hk hx ps (omega arith)))
        (takes f)
        (omega (arith, takes_most f))
    turn_light (bind m b) h hk hx =
        let s = turn_light b (omega arith) hk (l_cons (value_light hk hx m (omega arith)) hx) in
        light_after (light_after {m' = 1 + weight b} s 1 (omega arith)) (takes m)
        (omega (arith, takes_most m))
    turn_light (con t ps) {ks} {xs} h hk hx = whole_light (con t ps) ks xs
    turn_light (cases m ps) h hk hx =
        light_after (turnᵃ_light ps (omega arith) hk hx (value_light hk hx m (omega arith))) (takes m) (omega (arith, takes_most m))
    turn_light (num n) {ks} {xs} h hk hx = whole_light (num n) ks xs
    turn_light (op o ps) {ks} {xs} h hk hx = whole_light (op o ps) ks xs

    turnᵃ_light : (ps : Arms) {ks xs : Closures} {c : Closure} → weightᵃ ps ≤ w → Lights ks → Lights xs → Light c
        → LightTurn (weightᵃ ps) (turnᵃ ps ks xs c)
    turnᵃ_light none h hk hx c = record { most = omega arith; light = l_stuck }
    turnᵃ_light (arm t n b ps) h hk hx (l_fun f ks xs) = record { most = omega arith; light = l_stuck }
    turnᵃ_light (arm t n b ps) h hk hx l_num = record { most = omega arith; light = l_stuck }
    turnᵃ_light (arm t n b ps) h hk hx (l_con {t = t'} {cs} g) =
        light_cond (both t' (sizeᶜ cs) t n) (light_after {m' = n + weight b} (turn_light b (omega arith) hk (rev_light g hx)) n (omega arith))
        (turnᵃ_light ps (omega arith) hk hx (l_con g)) (omega arith) (omega arith)

  needs_most : (r : ℕ) {e : End} → LightEnd e → needs r e ≤ r * w
  unfolding needs after
  needs_most zero h = omega arith
  needs_most (suc r) l_comes = omega arith
  needs_most (suc r) l_stuck = omega arith
  needs_most (suc r) (l_goes {n} {b} h hk hx) =
      let s = turn_light b (omega arith) hk hx in omega (arith, s.most, needs_most r s.light)

pub enough_records : EnoughRecords
unfolding needed
enough_records t r = let s = turn_light (weight t) t (omega arith) l_nil l_nil in omega (arith, s.most, needs_most (weight t) r s.light)
