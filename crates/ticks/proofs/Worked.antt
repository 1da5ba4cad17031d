-- The worked rules in the tick, by one equation that computes over the whole table. Assumes nothing.
use mathlib.Core.Path.{◌≡◌, refl}
use mathlib.Core.List.{List, [], ◌∷◌}
use mathlib.Core.Option.{Option, some, none}
use Rattle.language.specs.Term.{size}
use Rattle.language.specs.Words.{words}
use Rattle.language.specs.Sub.{sub}
use Rattle.language.specs.Run.{atom}
use Rattle.language.specs.Image.{downto, passing, image}
use Rattle.language.specs.Setting.{in_version}
use Rattle.language.specs.Kinds.{known, head_of}
use Rattle.language.specs.Dead.{dead}
use Rattle.language.specs.Read.{Reading, accepted, refused, then, made, second, number, many, unlike, arms_of, opened, term, closed, ended, read}
use Rattle.language.specs.Cases.{Each}
use Rattle.language.proofs.Clash.{never}
use Rattle.ticks.specs.Tick.{as_term, sizeᶜ, revᶜ, itselfᶜ, held, value, takes, after, whole, apply, given, on_numbers, operated, operation}
use Rattle.ticks.specs.Tick.{sole, handed, passed, turn}
use Rattle.ticks.specs.Tick.{spend, next, tick_from, tick}
use Rattle.ticks.specs.Worked.{Shown, shown, Row, table, Gives, WorkedTicks}

-- the reply to a row, and the replies to all of them
abbrev reply : Row → Reading → Option Shown
reply x (accepted t) = some (shown (tick x.ration x.records (image t)))
reply x (refused e p) = none

abbrev replies : List Row → List (Option Shown)
replies [] = []
replies (x ∷ xs) = reply x (read (in_version x.version) x.rule) ∷ replies xs

abbrev listed : List Row → List (Option Shown)
listed [] = []
listed (x ∷ xs) = some x.reply ∷ listed xs

gives : (x : Row) (g : Reading) → read (in_version x.version) x.rule ≡ g → reply x g ≡ some x.reply → Gives x
gives x (accepted t) e h = record { term = t; reads = e; replies = (cc) }
gives x (refused n p) e h = never cc

all_give : (xs : List Row) → replies xs ≡ listed xs → Each Gives xs
all_give [] h = tt
all_give (x ∷ xs) h =
    let p : reply x (read (in_version x.version) x.rule) ≡ some x.reply = cc in
    let q : replies xs ≡ listed xs = cc in
    (gives x (read (in_version x.version) x.rule) refl p, all_give xs q)

pub worked_ticks : WorkedTicks
unfolding read known closed ended term then made second number many unlike dead arms_of opened head_of words image passing downto atom size sub shown tick tick_from next spend turn passed handed sole operation operated on_numbers given whole apply after takes value held sizeᶜ revᶜ itselfᶜ as_term
worked_ticks = all_give table refl
