-- How far a run has come: the rules that it has used, and what comes next. Document 02, Wish 2: "That number equals the applications the
-- definition makes up to that point". For either language.
use Rattle.std.specs.Prelude.{ℕ, false, ◌≡◌}
use Rattle.std.proofs.Math.Option.{some, none as nothing}
use Rattle.language.specs.Term.{Lang, Term, Terms, Arms, fun, call, bind, con, cases, num, op, nil, cons, size}
use Rattle.language.specs.Sub.{sub}
use Rattle.language.specs.Run.{atoms, Value, Gives, enters, rev, itself, took, Run, Runs, Counts, uses, ◌⊕◌, count, counts}

-- what comes next: a value is taken, a constructor built (an operation "counts as one": Wish 13), a let bound, a function called or an arm taken; or
-- no rule applies
pub data Next : Type 0 where
  a_value a_build a_let a_call a_match rule_none : Next

-- `Upto L t n`: a point in the run of the closed term t by the rules of L, at which n comes next
mutual
  pub data Upto (L : Lang) : Term → Next → Type 0 where
    -- a value: it is taken next
    at_value : {v : Term} → Value v → Upto L v a_value
    -- a constructor that is not an atom: an argument is on its way to a value; or all are values, and it is built next
    in_build : {t : ℕ} {ps : Terms} {n : Next} → atoms ps ≡ false → Uptos L ps n → Upto L (con t ps) n
    at_build : {t : ℕ} {ps vs : Terms} → atoms ps ≡ false → Runs L ps vs → Upto L (con t ps) a_build
    -- an operation: a part is on its way to a value; or all are values, and what it gives is built next; or it gives nothing: "An operation on anything
    -- but numbers has no value" (document 02, Wish 13)
    in_operands : {o : ℕ} {ps : Terms} {n : Next} → Uptos L ps n → Upto L (op o ps) n
    at_operation : {o : ℕ} {ps vs : Terms} {v : Term} → Runs L ps vs → Gives o vs v → Upto L (op o ps) a_build
    operated_unfit : {o : ℕ} {ps vs : Terms} → Runs L ps vs → ((v : Term) → Gives o vs v → ⊥) → Upto L (op o ps) rule_none
    -- a let: the bound term is on its way; or it is a value, and bound next; or it was bound, and the body runs
    in_bound : {m b : Term} {n : Next} → Upto L m n → Upto L (bind m b) n
    at_let : {m b v : Term} → Run L m v → Upto L (bind m b) a_let
    past_let : {m b v : Term} {n : Next} → Run L m v → Upto L (sub 0 0 nil (cons v nil) b) n → Upto L (bind m b) n
    -- a call: the applied term is on its way; or it is a value, and an argument is on its way
    in_applied : {f : Term} {ps : Terms} {n : Next} → Upto L f n → Upto L (call f ps) n
    in_arguments : {f v : Term} {ps : Terms} {n : Next} → Run L f v → Uptos L ps n → Upto L (call f ps) n
    -- or all are values: a constructor or a number is applied, or a function that has not "exactly that many arguments"; or one that has, and it is
    -- called next
    called_con : {f : Term} {t : ℕ} {ps us vs : Terms} → Run L f (con t us) → Runs L ps vs → Upto L (call f ps) rule_none
    called_num : {f : Term} {i : ℕ} {ps vs : Terms} → Run L f (num i) → Runs L ps vs → Upto L (call f ps) rule_none
    called_unfit : {o a : ℕ} {f b : Term} {ps vs : Terms} → Run L f (fun o a b) → Runs L ps vs → enters L a vs ≡ nothing → Upto L (call f ps) rule_none
    at_call : {o a : ℕ} {f b : Term} {ps vs ks xs : Terms} → Run L f (fun o a b) → Runs L ps vs → enters L a vs ≡ some (ks, xs)
        → Upto L (call f ps) a_call
    -- or it was called, and its body runs
    past_call : {o a : ℕ} {f b : Term} {ps vs ks xs : Terms} {n : Next} → Run L f (fun o a b) → Runs L ps vs → enters L a vs ≡ some (ks, xs)
        → Upto L (sub 0 0 ks (rev xs (itself o (fun o a b))) b) n → Upto L (call f ps) n
    -- a match: the subject is on its way; or it is a function or a number, or a constructor for which there is no arm; or there is one, and it is taken
    -- next
    in_subject : {m : Term} {ps : Arms} {n : Next} → Upto L m n → Upto L (cases m ps) n
    matched_fun : {o a : ℕ} {m b : Term} {ps : Arms} → Run L m (fun o a b) → Upto L (cases m ps) rule_none
    matched_num : {m : Term} {i : ℕ} {ps : Arms} → Run L m (num i) → Upto L (cases m ps) rule_none
    matched_none : {m : Term} {t : ℕ} {vs : Terms} {ps : Arms} → Run L m (con t vs) → took t (size vs) ps ≡ nothing → Upto L (cases m ps) rule_none
    at_match : {m b : Term} {t : ℕ} {vs : Terms} {ps : Arms} → Run L m (con t vs) → took t (size vs) ps ≡ some b → Upto L (cases m ps) a_match
    -- or it was taken, and its body runs
    past_match : {m b : Term} {t : ℕ} {vs : Terms} {ps : Arms} {n : Next} → Run L m (con t vs) → took t (size vs) ps ≡ some b
        → Upto L (sub 0 0 nil (rev vs nil) b) n → Upto L (cases m ps) n

  -- "Parts come to values in the order of their words": the first is on its way, or it is a value and a later one is
  pub data Uptos (L : Lang) : Terms → Next → Type 0 where
    in_first : {t : Term} {ts : Terms} {n : Next} → Upto L t n → Uptos L (cons t ts) n
    in_later : {t v : Term} {ts : Terms} {n : Next} → Run L t v → Uptos L ts n → Uptos L (cons t ts) n

-- how often each rule is used up to that point
unfoldable mutual
  pub used : {L : Lang} {t : Term} {n : Next} → Upto L t n → Counts
  used (at_value v) = uses 0 0 0 0 0
  used (in_build e u) = useds u
  used (at_build e r) = counts r
  used (in_operands u) = useds u
  used (at_operation r g) = counts r
  used (operated_unfit r g) = counts r
  used (in_bound u) = used u
  used (at_let r) = count r
  used (past_let r u) = uses 0 0 1 0 0 ⊕ count r ⊕ used u
  used (in_applied u) = used u
  used (in_arguments f u) = count f ⊕ useds u
  used (called_con f r) = count f ⊕ counts r
  used (called_num f r) = count f ⊕ counts r
  used (called_unfit f r e) = count f ⊕ counts r
  used (at_call f r e) = count f ⊕ counts r
  used (past_call f r e u) = uses 0 1 0 0 0 ⊕ count f ⊕ counts r ⊕ used u
  used (in_subject u) = used u
  used (matched_fun r) = count r
  used (matched_num r) = count r
  used (matched_none r k) = count r
  used (at_match r k) = count r
  used (past_match r k u) = uses 0 0 0 1 0 ⊕ count r ⊕ used u

  pub useds : {L : Lang} {ts : Terms} {n : Next} → Uptos L ts n → Counts
  useds (in_first u) = used u
  useds (in_later r u) = count r ⊕ useds u
