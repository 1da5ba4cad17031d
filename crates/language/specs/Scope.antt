-- Which variables a term may name: document 01, "Words of a rule", the paragraph on binding.
use Rattle.std.specs.Prelude.{ℕ, suc, ◌+◌, ◌<◌}
use Rattle.language.specs.Term.{Lang, rules, images, Term, Terms, Arms, var, kvar, fun, call, bind, con, cases, num, op, nil, cons, none, arm}

-- continuation variables stand in "images only"
abbrev pub HasK : Lang → Type 0
HasK rules = ⊥
HasK images = Unit {0}

-- `Scoped L c d t`: in the language L, t names continuation variables below c and source variables below d alone. "Source indices and
-- continuation indices are counted separately."
-- A function of a arguments binds a source variables and k_0, and "A recursive function of a arguments also binds x_a in its body to
-- itself". "A let or an arm binds source variables only": the let's value; the arm's arguments. A number names nothing.
mutual
  pub data Scoped (L : Lang) : ℕ → ℕ → Term → Type 0 where
    s_var : {c d i : ℕ} → i < d → Scoped L c d (var i)
    s_kvar : {c d i : ℕ} → HasK L → i < c → Scoped L c d (kvar i)
    s_fun : {c d o a : ℕ} {b : Term} → Scoped L (suc c) (d + a + o) b → Scoped L c d (fun o a b)
    s_call : {c d : ℕ} {f : Term} {ps : Terms} → Scoped L c d f → Scopedᵗ L c d ps → Scoped L c d (call f ps)
    s_bind : {c d : ℕ} {m b : Term} → Scoped L c d m → Scoped L c (suc d) b → Scoped L c d (bind m b)
    s_con : {c d t : ℕ} {ps : Terms} → Scopedᵗ L c d ps → Scoped L c d (con t ps)
    s_cases : {c d : ℕ} {m : Term} {ps : Arms} → Scoped L c d m → Scopedᵃ L c d ps → Scoped L c d (cases m ps)
    s_num : {c d n : ℕ} → Scoped L c d (num n)
    s_op : {c d o : ℕ} {ps : Terms} → Scopedᵗ L c d ps → Scoped L c d (op o ps)

  pub data Scopedᵗ (L : Lang) : ℕ → ℕ → Terms → Type 0 where
    s_nil : {c d : ℕ} → Scopedᵗ L c d nil
    s_cons : {c d : ℕ} {t : Term} {ts : Terms} → Scoped L c d t → Scopedᵗ L c d ts → Scopedᵗ L c d (cons t ts)

  pub data Scopedᵃ (L : Lang) : ℕ → ℕ → Arms → Type 0 where
    s_none : {c d : ℕ} → Scopedᵃ L c d none
    s_arm : {c d t n : ℕ} {b : Term} {ps : Arms} → Scoped L c (d + n) b → Scopedᵃ L c d ps → Scopedᵃ L c d (arm t n b ps)
