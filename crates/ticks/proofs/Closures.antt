-- What closures stand for. A closure stands for a value, and for a closed one if its words name only what it holds; an atom's words, taken as a
-- value, stand for the atom with what is bound put in; and what a call, a let and a match bind is what the definition puts in.
-- Assumes nothing.
use Prim.Native.Nat.{ℕ, zero, suc, ◌+◌, ◌<◌}
use mathlib.Core.Path.{◌≡◌, refl, ap, ap₂}
use native.Mathlib.Omega.{arith}
use Rattle.language.specs.Term.{images, Term, Terms, var, kvar, con, nil, cons, size}
use Rattle.language.specs.Scope.{Scoped, Scopedᵗ, s_var, s_kvar, s_fun, s_con, s_num, s_nil, s_cons}
use Rattle.language.specs.Sub.{look, sub, subᵗ}
use Rattle.language.specs.Run.{Value, Values, v_fun, v_con, v_num, v_nil, v_cons, rev, itself}
use Rattle.meaning.proofs.Scopes.{sub_scoped}
use Rattle.meaning.proofs.Compose.{join}
use Rattle.ticks.specs.Flat.{FlatAtom, FlatAtoms, f_var, f_kvar, f_fun, f_con, f_num, f_nil, f_cons, Flat}
use Rattle.ticks.specs.Tick.{Closure, Closures, c_fun, c_con, c_num, c_nil, c_cons, as_term, as_terms, sizeᶜ, revᶜ, itselfᶜ, held, value, values}

-- the term with what is bound put in
abbrev pub put : Closures → Closures → Term → Term
put ks xs t = sub 0 0 (as_terms ks) (as_terms xs) t

-- `Good c`: the words of its functions are flat and name only what is bound
mutual
  pub data Good : Closure → Type 0 where
    g_fun : {o a : ℕ} {b : Term} {ks xs : Closures} → Flat b → Scoped images (suc (sizeᶜ ks)) (sizeᶜ xs + a + o) b → Goods ks → Goods xs
        → Good (c_fun o a b ks xs)
    g_con : {t : ℕ} {cs : Closures} → Goods cs → Good (c_con t cs)
    g_num : {n : ℕ} → Good (c_num n)

  pub data Goods : Closures → Type 0 where
    g_nil : Goods c_nil
    g_cons : {c : Closure} {cs : Closures} → Good c → Goods cs → Goods (c_cons c cs)

-- a flat term that names only what is bound, where it is bound
pub record Fits (ks xs : Closures) (t : Term) : Type 0 where
  pub flat : Flat t
  pub scoped : Scoped images (sizeᶜ ks) (sizeᶜ xs) t
  pub good_k : Goods ks
  pub good_x : Goods xs

pub size_as_terms : (cs : Closures) → size (as_terms cs) ≡ sizeᶜ cs
unfolding size as_terms sizeᶜ
size_as_terms c_nil = refl
size_as_terms (c_cons c cs) = ap suc (size_as_terms cs)

mutual
  unfolding as_term sub

  pub as_term_value : (c : Closure) → Value (as_term c)
  as_term_value (c_fun o a b ks xs) = v_fun
  as_term_value (c_con t cs) = v_con (as_terms_values cs)
  as_term_value (c_num n) = v_num

  pub as_terms_values : (cs : Closures) → Values (as_terms cs)
  as_terms_values c_nil = v_nil
  as_terms_values (c_cons c cs) = v_cons (as_term_value c) (as_terms_values cs)

mutual
  unfolding as_term sub

  pub as_term_scoped : {c : Closure} → Good c → Scoped images 0 0 (as_term c)
  as_term_scoped (g_fun {o} {a} {ks} {xs} f b hk hx) =
      s_fun (sub_scoped (as_terms_scoped hk) (as_terms_scoped hx) b 1 (0 + a + o) (λ l. omega (arith, size_as_terms ks)) (omega (arith, size_as_terms xs)))
  as_term_scoped (g_con cs) = s_con (as_terms_scoped cs)
  as_term_scoped g_num = s_num

  pub as_terms_scoped : {cs : Closures} → Goods cs → Scopedᵗ images 0 0 (as_terms cs)
  as_terms_scoped g_nil = s_nil
  as_terms_scoped (g_cons c cs) = s_cons (as_term_scoped c) (as_terms_scoped cs)

-- closures last first, and copies of one, before others
pub as_terms_rev : (cs acc : Closures) → as_terms (revᶜ cs acc) ≡ rev (as_terms cs) (as_terms acc)
unfolding as_terms revᶜ rev
as_terms_rev c_nil acc = refl
as_terms_rev (c_cons c cs) acc = as_terms_rev cs (c_cons c acc)

pub as_terms_itself : (o : ℕ) (f : Closure) (xs : Closures) → as_terms (itselfᶜ o f xs) ≡ join (itself o (as_term f)) (as_terms xs)
unfolding as_terms itselfᶜ itself join
as_terms_itself zero f xs = refl
as_terms_itself (suc o) f xs = ap (cons (as_term f)) (as_terms_itself o f xs)

pub rev_join : (us acc ys : Terms) → rev us (join acc ys) ≡ join (rev us acc) ys
unfolding rev join
rev_join nil acc ys = refl
rev_join (cons u us) acc ys = rev_join us (cons u acc) ys

pub rev_size : (cs acc : Closures) → sizeᶜ (revᶜ cs acc) ≡ sizeᶜ cs + sizeᶜ acc
unfolding revᶜ sizeᶜ
rev_size c_nil acc = omega arith
rev_size (c_cons c cs) acc = rw (rev_size cs (c_cons c acc)) (omega arith)

pub itself_size : (o : ℕ) (f : Closure) (xs : Closures) → sizeᶜ (itselfᶜ o f xs) ≡ o + sizeᶜ xs
unfolding itselfᶜ sizeᶜ
itself_size zero f xs = omega arith
itself_size (suc o) f xs = rw (itself_size o f xs) (omega arith)

pub rev_good : {cs acc : Closures} → Goods cs → Goods acc → Goods (revᶜ cs acc)
unfolding revᶜ
rev_good g_nil h = h
rev_good (g_cons c cs) h = rev_good cs (g_cons c h)

pub itself_good : (o : ℕ) {f : Closure} {xs : Closures} → Good f → Goods xs → Goods (itselfᶜ o f xs)
unfolding itselfᶜ
itself_good zero f h = h
itself_good (suc o) f h = g_cons f (itself_good o f h)

-- the i-th of what is bound
held_is : (cs : Closures) (i : ℕ) (e : Term) → i < sizeᶜ cs → as_term (held cs i) ≡ look 0 (as_terms cs) i e
unfolding held sizeᶜ as_terms look
held_is c_nil i e h = absurd (omega arith)
held_is (c_cons c cs) zero e h = refl
held_is (c_cons c cs) (suc i) e h = held_is cs i e (omega arith)

held_good : {cs : Closures} → Goods cs → (i : ℕ) → Good (held cs i)
unfolding held
held_good g_nil i = g_con g_nil
held_good (g_cons c cs) zero = c
held_good (g_cons c cs) (suc i) = held_good cs i

-- an atom's words, taken as a value
module _ (ks xs : Closures) where
  mutual
    unfolding value as_term sub

    pub value_is : {t : Term} → FlatAtom t → Scoped images (sizeᶜ ks) (sizeᶜ xs) t → as_term (value t ks xs) ≡ put ks xs t
    value_is f_var (s_var {i} h) = held_is xs i (var i) h
    value_is f_kvar (s_kvar {i} l h) = held_is ks i (kvar i) h
    value_is (f_fun b) h = refl
    value_is (f_con {t} fs) (s_con hs) = ap (con t) (values_are fs hs)
    value_is f_num h = refl

    pub values_are : {ts : Terms} → FlatAtoms ts → Scopedᵗ images (sizeᶜ ks) (sizeᶜ xs) ts
        → as_terms (values ts ks xs) ≡ subᵗ 0 0 (as_terms ks) (as_terms xs) ts
    values_are f_nil h = refl
    values_are (f_cons f fs) (s_cons h hs) = ap₂ cons (value_is f h) (values_are fs hs)

module _ {ks xs : Closures} (hk : Goods ks) (hx : Goods xs) where
  mutual
    unfolding value

    pub value_good : {t : Term} → FlatAtom t → Scoped images (sizeᶜ ks) (sizeᶜ xs) t → Good (value t ks xs)
    value_good (f_var {i}) h = held_good hx i
    value_good (f_kvar {i}) h = held_good hk i
    value_good (f_fun b) (s_fun h) = g_fun b h hk hx
    value_good (f_con fs) (s_con hs) = g_con (values_good fs hs)
    value_good f_num h = g_num

    pub values_good : {ts : Terms} → FlatAtoms ts → Scopedᵗ images (sizeᶜ ks) (sizeᶜ xs) ts → Goods (values ts ks xs)
    values_good f_nil h = g_nil
    values_good (f_cons f fs) (s_cons h hs) = g_cons (value_good f h) (values_good fs hs)
