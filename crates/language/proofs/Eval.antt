-- The run of a term, found by computing: what is returned holds the derivation, so that nothing here is to be believed. It serves the worked
-- rules. Premises are equations of tests that computed, and nothing is carried along a path, so that the counts of a run that was found compute.
-- Assumes nothing.
use Prim.Native.Nat.{ℕ, zero, suc}
use mathlib.Core.Bool.{Bool, true, false}
use mathlib.Core.Path.{◌≡◌, refl}
use mathlib.Core.Option.{Option, some, none as nothing}
use Rattle.language.specs.Term.{Lang, Term, Terms, Arms, var, kvar, fun, call, bind, con, cases, num, op, nil, cons, size}
use Rattle.language.specs.Sub.{sub}
use Rattle.language.specs.Run.{atoms, Value, Values, v_fun, v_con, v_num, v_nil, v_cons, Gives, adds, subtracts, less, enters, rev, itself, took, Run, Runs, taken, built, bound, called, matched, operated, done, then}

-- levels enough for the run of each worked rule and of its image
abbrev pub levels : ℕ
levels = 200

-- a run of a term, with its value
pub record Ran (L : Lang) (t : Term) : Type 0 where
  pub value : Term
  pub run : Run L t value

pub record Rans (L : Lang) (ts : Terms) : Type 0 where
  pub values : Terms
  pub runs : Runs L ts values

-- whether a term is a value
mutual
  value? : (t : Term) → Option (Value t)
  value? (var i) = nothing
  value? (kvar i) = nothing
  value? (fun o a b) = some v_fun
  value? (call f ps) = nothing
  value? (bind m b) = nothing
  value? (con t ps) = elim (values? ps) [ nothing ↦ nothing | some vs ↦ some (v_con vs) ]
  value? (cases m ps) = nothing
  value? (num n) = some v_num
  value? (op o ps) = nothing

  values? : (ts : Terms) → Option (Values ts)
  values? nil = some v_nil
  values? (cons t ts) = elim (value? t) [ nothing ↦ nothing | some v ↦ elim (values? ts) [ nothing ↦ nothing | some vs ↦ some (v_cons v vs) ] ]

-- whether a term is a number
pub data Number : Term → Type 0 where
  is_number : {n : ℕ} → Number (num n)

number? : (t : Term) → Option (Number t)
number? (var i) = nothing
number? (kvar i) = nothing
number? (fun o a b) = nothing
number? (call f ps) = nothing
number? (bind m b) = nothing
number? (con t ps) = nothing
number? (cases m ps) = nothing
number? (num n) = some is_number
number? (op o ps) = nothing

-- what an operation gives, if anything
pub record Given (o : ℕ) (vs : Terms) : Type 0 where
  pub result : Term
  pub gives : Gives o vs result

of_numbers? : {s t : Term} (o : ℕ) → Option (Number s) → Option (Number t) → Option (Given o (cons s (cons t nil)))
of_numbers? o nothing y = nothing
of_numbers? o (some x) nothing = nothing
of_numbers? zero (some is_number) (some is_number) = some record { result = _; gives = adds }
of_numbers? (suc zero) (some is_number) (some is_number) = some record { result = _; gives = subtracts }
of_numbers? (suc (suc zero)) (some is_number) (some is_number) = some record { result = _; gives = less }
of_numbers? (suc (suc (suc o))) (some is_number) (some is_number) = nothing

gives? : (o : ℕ) (vs : Terms) → Option (Given o vs)
unfolding number? of_numbers?
gives? o nil = nothing
gives? o (cons s nil) = nothing
gives? o (cons s (cons t nil)) = of_numbers? o (number? s) (number? t)
gives? o (cons s (cons t (cons u us))) = nothing

-- one rule at a time, where go finds the runs of parts and bodies
module _ (L : Lang) (go : (t : Term) → Option (Ran L t)) where
  parts? : (ts : Terms) → Option (Rans L ts)
  parts? nil = some record { values = nil; runs = done }
  parts? (cons t ts) = elim (go t) [
    | nothing ↦ nothing
    | some r ↦ elim (parts? ts)
        [ nothing ↦ nothing | some rs ↦ some record { values = cons r.value rs.values; runs = then r.run rs.runs } ]
  ]

  con? : (t : ℕ) (ps : Terms) (b : Bool) → atoms ps ≡ b → Option (Ran L (con t ps))
  unfolding parts? values?
  con? t ps true e = elim (values? ps) [ nothing ↦ nothing | some vs ↦ some record { value = con t ps; run = taken (v_con vs) } ]
  con? t ps false e = elim (parts? ps) [ nothing ↦ nothing | some rs ↦ some record { value = con t rs.values; run = built e rs.runs } ]

  let? : (m b : Term) → Ran L m → Option (Ran L (bind m b))
  let? m b r = elim (go (sub 0 0 nil (cons r.value nil) b))
      [ nothing ↦ nothing | some s ↦ some record { value = s.value; run = bound r.run s.run } ]

  apply? : (f : Term) (ps vs : Terms) (o a : ℕ) (b : Term) → Run L f (fun o a b) → Runs L ps vs → (e : Option (Terms × Terms)) → enters L a vs ≡ e
      → Option (Ran L (call f ps))
  apply? f ps vs o a b r rs nothing q = nothing
  apply? f ps vs o a b r rs (some (ks, xs)) q = elim (go (sub 0 0 ks (rev xs (itself o (fun o a b))) b))
      [ nothing ↦ nothing | some s ↦ some record { value = s.value; run = called r rs q s.run } ]

  call? : (f : Term) (ps vs : Terms) (v : Term) → Run L f v → Runs L ps vs → Option (Ran L (call f ps))
  unfolding apply?
  call? f ps vs (var i) r rs = nothing
  call? f ps vs (kvar i) r rs = nothing
  call? f ps vs (fun o a b) r rs = apply? f ps vs o a b r rs (enters L a vs) refl
  call? f ps vs (call g qs) r rs = nothing
  call? f ps vs (bind m b) r rs = nothing
  call? f ps vs (con t qs) r rs = nothing
  call? f ps vs (cases m qs) r rs = nothing
  call? f ps vs (num n) r rs = nothing
  call? f ps vs (op o qs) r rs = nothing

  arm? : (m : Term) (ps : Arms) (t : ℕ) (vs : Terms) → Run L m (con t vs) → (o : Option Term) → took t (size vs) ps ≡ o → Option (Ran L (cases m ps))
  arm? m ps t vs r nothing e = nothing
  arm? m ps t vs r (some b) e = elim (go (sub 0 0 nil (rev vs nil) b))
      [ nothing ↦ nothing | some s ↦ some record { value = s.value; run = matched r e s.run } ]

  match? : (m : Term) (ps : Arms) (v : Term) → Run L m v → Option (Ran L (cases m ps))
  unfolding arm?
  match? m ps (var i) r = nothing
  match? m ps (kvar i) r = nothing
  match? m ps (fun o a b) r = nothing
  match? m ps (call g qs) r = nothing
  match? m ps (bind n b) r = nothing
  match? m ps (con t vs) r = arm? m ps t vs r (took t (size vs) ps) refl
  match? m ps (cases n qs) r = nothing
  match? m ps (num n) r = nothing
  match? m ps (op o qs) r = nothing

  op? : (o : ℕ) (ps : Terms) → Rans L ps → Option (Ran L (op o ps))
  unfolding gives?
  op? o ps rs = elim (gives? o rs.values) [ nothing ↦ nothing | some g ↦ some record { value = g.result; run = operated rs.runs g.gives } ]

  round : (t : Term) → Option (Ran L t)
  unfolding con? let? call? match? op? parts?
  round (var i) = nothing
  round (kvar i) = nothing
  round (fun o a b) = some record { value = fun o a b; run = taken v_fun }
  round (call f ps) = elim (go f) [
    | nothing ↦ nothing
    | some r ↦ elim (parts? ps)
        [ nothing ↦ nothing | some rs ↦ call? f ps rs.values r.value r.run rs.runs ]
  ]
  round (bind m b) = elim (go m) [ nothing ↦ nothing | some r ↦ let? m b r ]
  round (con t ps) = con? t ps (atoms ps) refl
  round (cases m ps) = elim (go m) [ nothing ↦ nothing | some r ↦ match? m ps r.value r.run ]
  round (num n) = some record { value = num n; run = taken v_num }
  round (op o ps) = elim (parts? ps) [ nothing ↦ nothing | some rs ↦ op? o ps rs ]

-- the run of a term, where it has one of at most g levels
unfoldable pub eval : (L : Lang) → ℕ → (t : Term) → Option (Ran L t)
unfolding round
eval L zero t = nothing
eval L (suc g) t = round L (eval L g) t
