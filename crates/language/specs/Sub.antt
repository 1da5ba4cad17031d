-- Values put in for variables: document 01, "How a rule runs". "All values put in for variables are closed, so nothing is lifted."
use Rattle.std.specs.Prelude.{ℕ, zero, suc, ◌+◌}
use Rattle.language.specs.Term.{Term, Terms, Arms, var, kvar, fun, call, bind, con, cases, num, op, nil, cons, none, arm}

-- the i-th of the terms, or e past their end
unfoldable pub nth : Terms → ℕ → Term → Term
nth nil i e = e
nth (cons x xs) zero e = x
nth (cons x xs) (suc i) e = nth xs i e

-- what goes in for the variable e, whose index is i, under d binders: e itself if one of the d binds it, else the one of xs that is its
unfoldable pub look : ℕ → Terms → ℕ → Term → Term
unfolding nth
look zero xs i e = nth xs i e
look (suc d) xs zero e = e
look (suc d) xs (suc i) e = look d xs i e

-- ks put in for the continuation variables, and xs for the source variables, from under dk and dx binders
unfoldable mutual
  unfolding look

  pub sub : ℕ → ℕ → Terms → Terms → Term → Term
  sub dk dx ks xs (var i) = look dx xs i (var i)
  sub dk dx ks xs (kvar i) = look dk ks i (kvar i)
  sub dk dx ks xs (fun o a b) = fun o a (sub (suc dk) (dx + a + o) ks xs b)
  sub dk dx ks xs (call f ps) = call (sub dk dx ks xs f) (subᵗ dk dx ks xs ps)
  sub dk dx ks xs (bind m b) = bind (sub dk dx ks xs m) (sub dk (suc dx) ks xs b)
  sub dk dx ks xs (con t ps) = con t (subᵗ dk dx ks xs ps)
  sub dk dx ks xs (cases m ps) = cases (sub dk dx ks xs m) (subᵃ dk dx ks xs ps)
  sub dk dx ks xs (num n) = num n
  sub dk dx ks xs (op o ps) = op o (subᵗ dk dx ks xs ps)

  pub subᵗ : ℕ → ℕ → Terms → Terms → Terms → Terms
  subᵗ dk dx ks xs nil = nil
  subᵗ dk dx ks xs (cons t ts) = cons (sub dk dx ks xs t) (subᵗ dk dx ks xs ts)

  pub subᵃ : ℕ → ℕ → Terms → Terms → Arms → Arms
  subᵃ dk dx ks xs none = none
  subᵃ dk dx ks xs (arm t n b ps) = arm t n (sub dk (dx + n) ks xs b) (subᵃ dk dx ks xs ps)
