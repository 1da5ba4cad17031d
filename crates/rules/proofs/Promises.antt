-- The promises of specs/Promises.antt: an outcome is what the definition says it is, so the definition's cases are the outcome's.
-- Assumes nothing.
use Prim.Native.Nat.{ℕ, ◌<◌, ◌≤◌}
use mathlib.Core.Path.{◌≡◌, refl, sym, ap, ◌∙◌, subst₂}
use mathlib.Core.Bool.{Bool, true, false, cond}
use mathlib.Core.Logic.{◌↔◌}
use mathlib.Core.List.{List, ◌++◌}
use native.Mathlib.Omega.{arith}
use lib.Dec.{ltb}
use lib.ListN.{length, take, drop}
use lib.Seq.{take_at}
use borrow.Author.Tests.{ltb-true, ltb-false}
use Rattle.std.specs.Prelude.{Result, Ok, Err}
use Rattle.language.specs.Term.{rules, images, Term}
use Rattle.language.specs.Setting.{Setting}
use Rattle.language.specs.Words.{words}
use Rattle.language.specs.Image.{image}
use Rattle.language.specs.Read.{no_place, Reading, accepted, refused, read}
use Rattle.language.specs.Calls.{Reply, Outcome, success, refusal, refuses, reply_of, told, checked, measured, filled, written}
use Rattle.language.specs.declared.Refusal.{Refusal}
use Rattle.language.proofs.Clash.{never}
use Rattle.language.proofs.Faults.{same_answer}
use Rattle.trust.proofs.Accepted.{accepted_are_rules}
use Rattle.trust.proofs.Ranges.{words_fit, images_in_range}
use Rattle.trust.proofs.Unique.{words_determine}
use Rattle.meaning.proofs.Promises.{both_ways}
use Rattle.files.specs.Files.{packing, version_in, versed, unpacking, unpacked_reply}
use Rattle.files.specs.declared.Form.{Form}
use Rattle.files.proofs.Shapes.{Shaped, stays, fills, written_shaped, packing_shaped, taking_shaped}
use Rattle.rules.specs.PublicCalls.{check, measure, write, pack, unpack, Allows}
use Rattle.rules.specs.Promises.{Determined, Unwritten, refusing, no_room, Demand1, Written, Demand2, WrittenRuns, NoneAccepts, NoDeadArms}
use Rattle.rules.proofs.Replies.{answered, checked_fair, measured_fair, written_counted, packing_counted, unpacking_counted}
use Rattle.rules.proofs.Meanings.{same_told, outcome_answer, reply_refuses, kept, same_unpacked, unpacked_answered}

pub determined : Determined
determined (check S ws) x y e f = same_answer x y (e ∙ sym f)
determined (measure S ws) x y e f = same_answer x y (e ∙ sym f)
determined (write S ws out) x y e f = same_told reply_of same_answer x y e f
determined (pack g v ws out) x y e f = same_told reply_of same_answer x y e f
determined (unpack g bs out) x y e f = same_told unpacked_reply same_unpacked x y e f

-- what comes of writing the words ws into the output out: the definition's cases
data Replied (S : Setting) (ws out : List ℕ) : Outcome ℕ → Type 0 where
  refuses_rule : {e p : ℕ} → read S ws ≡ refused e p → Replied S ws out (refuses e p out)
  lacks_room : {t : Term} → read S ws ≡ accepted t → length out < length (words images (image t)) → Replied S ws out (refuses 9 no_place out)
  writing : {t : Term} {n : ℕ} {o : List ℕ} → read S ws ≡ accepted t → n ≡ length (words images (image t)) → n ≤ length out
      → o ≡ words images (image t) ++ drop n out → Replied S ws out (record { reply = success n; output = o })

written_is : (S : Setting) (ws out : List ℕ) (g : Reading) → read S ws ≡ g → Replied S ws out (written g out)
unfolding written filled
written_is S ws out (refused e p) q = refuses_rule q
written_is S ws out (accepted t) q = go (ltb (length out) (length (words images (image t)))) refl
  where
    go : (b : Bool) → ltb (length out) (length (words images (image t))) ≡ b
        → Replied S ws out
        (cond b (refuses 9 no_place out)
        (record {
          reply = success (length (words images (image t)));
          output = words images (image t) ++ drop (length (words images (image t))) out;
        }))
    go true e = lacks_room q (ltb-true _ _ e)
    go false e = writing q refl (ltb-false _ _ e) refl

replied_is : (S : Setting) (ws out o : List ℕ) (a : Result ℕ Refusal) → Allows (write S ws out) (a, o) → Replied S ws out (told a o)
replied_is S ws out o a h = rw h (written_is S ws out (read S ws) refl)

-- a rule that was accepted as one term was accepted as no other, and was not refused
same_term : {g : Reading} {t u : Term} → g ≡ accepted t → g ≡ accepted u → t ≡ u
same_term p q = cc

not_refused : {C : Type 0} {g : Reading} {t : Term} {e p : ℕ} → g ≡ accepted t → g ≡ refused e p → C
not_refused h k = never cc

-- what is checked and what is measured refuses exactly where the reading is refused
checked_refuses : (g : Reading) {r : Reply (Unit {0})} (e p : ℕ) → r ≡ checked g → (r ≡ refusal e p) ↔ (g ≡ refused e p)
unfolding checked
checked_refuses (accepted t) e p h = (λ k. never cc, λ k. never cc)
checked_refuses (refused d i) e p h = (λ k. cc, λ k. h ∙ ap checked k)

measured_refuses : (g : Reading) {r : Reply ℕ} (e p : ℕ) → r ≡ measured g → (r ≡ refusal e p) ↔ (g ≡ refused e p)
unfolding measured
measured_refuses (accepted t) e p h = (λ k. never cc, λ k. never cc)
measured_refuses (refused d i) e p h = (λ k. cc, λ k. h ∙ ap measured k)

written_refuses : (S : Setting) (ws out : List ℕ) {x : Outcome ℕ} (e p : ℕ) → Replied S ws out x → (x.reply ≡ refusal e p) ↔ Unwritten S ws out e p
written_refuses S ws out e p w = (λ k. to w k, λ f. from w f)
  where
    to : {x : Outcome ℕ} → Replied S ws out x → x.reply ≡ refusal e p → Unwritten S ws out e p
    to (refuses_rule {e = d} {p = i} q) k = let x : d ≡ e = cc in let y : i ≡ p = cc in refusing (rw (x, y) at q)
    to (lacks_room q l) k = let x : ◌≡◌ {A = ℕ} 9 e = cc in let y : no_place ≡ p = cc in subst₂ (Unwritten S ws out) x y (no_room q l)
    to (writing q m l o) k = never cc

    from : {x : Outcome ℕ} {d i : ℕ} → Replied S ws out x → Unwritten S ws out d i → x.reply ≡ refusal d i
    from (refuses_rule q) (refusing f) = cc
    from (refuses_rule q) (no_room f l) = not_refused f q
    from (lacks_room q l) (refusing f) = not_refused q f
    from (lacks_room q l) (no_room f m) = refl
    from (writing q m l o) (refusing f) = not_refused q f
    from (writing {t = u} q m l o) (no_room {t} f n) = let z : u ≡ t = same_term q f in absurd (omega (arith, rw z at m))

-- an outcome that refuses has the output as it was; unpacking refuses where no words were taken
keeps : {out : List ℕ} {x : Outcome ℕ} {e p : ℕ} → Shaped out x → x.reply ≡ refusal e p → x.output ≡ out
keeps (stays d i) h = refl
keeps (fills ws l) h = never cc

versed_refusal : (v : ℕ) {e p : ℕ} (r : Reply ℕ) → versed v r ≡ refusal e p → r ≡ refusal e p
unfolding versed
versed_refusal v (success n) h = never cc
versed_refusal v (refusal d i) h = cc

unpacking_keeps : (f : Form) (bs out : List ℕ) {e p : ℕ} → (unpacking f bs out).reply ≡ refusal e p → (unpacking f bs out).output ≡ out
unfolding unpacking
unpacking_keeps f bs out h = keeps (taking_shaped f bs out) (versed_refusal (version_in bs) _ h)

pub demand1 : Demand1
demand1 (check S ws) = record {
  replied = answered (checked_fair S ws);
  faulted = λ r e p h. checked_refuses (read S ws) e p h;
  unchanged = λ r e p h k. tt;
}
demand1 (measure S ws) = record {
  replied = answered (measured_fair S ws);
  faulted = λ r e p h. measured_refuses (read S ws) e p h;
  unchanged = λ r e p h k. tt;
}
demand1 (write S ws out) = record {
  replied = outcome_answer reply_of (written (read S ws) out) (answered (written_counted S ws out).fair);
  faulted = λ r e p h. written_refuses S ws out e p (replied_is S ws out r.1 r.0 h);
  unchanged = λ r e p h k. kept reply_of (written (read S ws) out) r e p (keeps (written_shaped (read S ws) out)) h k;
}
demand1 (pack f v ws out) = record {
  replied = outcome_answer reply_of (packing f v ws out) (answered (packing_counted f v ws out).fair);
  faulted = λ r e p h. reply_refuses reply_of (packing f v ws out) r e p h;
  unchanged = λ r e p h k. kept reply_of (packing f v ws out) r e p (keeps (packing_shaped f v ws out)) h k;
}
demand1 (unpack f bs out) = record {
  replied = outcome_answer unpacked_reply (unpacking f bs out) (unpacked_answered (unpacking_counted f bs out).fair);
  faulted = λ r e p h. reply_refuses unpacked_reply (unpacking f bs out) r e p h;
  unchanged = λ r e p h k. kept unpacked_reply (unpacking f bs out) r e p (unpacking_keeps f bs out) h k;
}

-- an answer that means a success counts as much
counts : (a : Result ℕ Refusal) {n : ℕ} → success n ≡ reply_of a → a ≡ Ok n
unfolding reply_of
counts (Ok m) h = let e : m ≡ _ = cc in ap Ok e
counts (Err r) h = never cc

pub demand2 : Demand2
demand2 S ws out o a t q h = go refl (replied_is S ws out o a h)
  where
    go : {x : Outcome ℕ} → x ≡ told a o → Replied S ws out x → Written t out o a
    go i (refuses_rule k) = not_refused q k
    go i (lacks_room {t = u} k l) =
        let z : u ≡ t = same_term k q in
        let l' : length out < length (words images (image t)) = rw z at l in
        record { fits = λ m. absurd (omega arith); longer = λ p e. l' }
    go i (writing {t = u} {n} {o = w} k e l p) =
        let z : u ≡ t = same_term k q in
        let e' : n ≡ length (words images (image t)) = rw z at e in
        let r : success n ≡ reply_of a = ap (λ y. y.reply) i in
        let p' : w ≡ words images (image t) ++ drop (length (words images (image t))) out = rw (z, e') at p in
        record {
          fits = λ m. (counts a r ∙ ap Ok e', sym (ap (λ y. y.output) i) ∙ p');
          longer = λ p x. let c : success n ≡ refusal 9 p = r ∙ x in never cc;
        }

-- the front of what was written
front : (S : Setting) (ws out o : List ℕ) (n : ℕ) (t : Term) → read S ws ≡ accepted t → Allows (write S ws out) (Ok n, o) → words images (image t) ≡ take n o
unfolding reply_of
front S ws out o n t q h = go refl (replied_is S ws out o (Ok n) h)
  where
    go : {x : Outcome ℕ} → x ≡ told (Ok n) o → Replied S ws out x → words images (image t) ≡ take n o
    go i (refuses_rule {e} {p} k) = not_refused q k
    go i (lacks_room k l) = let c : refusal 9 no_place ≡ success n = ap (λ y. y.reply) i in never cc
    go i (writing {t = u} {n = m} {o = w} k e l p) =
        let z : u ≡ t = same_term k q in
        let c : success m ≡ success n = ap (λ y. y.reply) i in
        let y : m ≡ n = cc in
        let x : w ≡ o = ap (λ y. y.output) i in
        rw (← x, p, ← z, ← y) (sym (take_at (words images (image u)) (drop m out) m (sym e)))

pub written_runs : WrittenRuns
written_runs S ws out o n t fit q h =
    let f = front S ws out o n t q h in
    let rule = (accepted_are_rules S ws t fit q).1 in
    let g = images_in_range t rule.ranged in (
      record {
        term = image t;
        ranged = g;
        laid = f;
        only = λ u k e. words_determine images u (image t) k g (e ∙ sym f);
      },
      λ w a l m. both_ways t w a l m rule.closed,
    )

-- words that were accepted are those of a rule, whose arms can all be taken, and of no other term; so they are refused, and no call succeeds
clash : {A : Type 0} {a : A} {e p : ℕ} → success a ≡ refusal e p → ⊥
clash h = never cc

pub no_dead_arms : NoDeadArms
unfolding checked reply_of measured written
no_dead_arms S t r dead = go (read S (words rules t)) refl
  where
    go : (g : Reading) → read S (words rules t) ≡ g → NoneAccepts S (words rules t)
    go (accepted u) q =
        let a = accepted_are_rules S (words rules t) u (words_fit rules t r) q in
        let z : t ≡ u = words_determine rules t u r a.1.ranged a.0 in
        absurd (dead (rw z a.1.live))
    go (refused e p) q = record {
      checks = λ h. clash (h ∙ ap checked q);
      measures = λ n h. clash (h ∙ ap measured q);
      writes = λ n out o h. clash (ap (λ x. x.reply) (h ∙ ap (λ g. written g out) q));
    }
