-- A refusal as the programs print it: the number, the entry's index and the side, as far as they are named.
use Rattle.std.specs.Prelude.{ℕ, List, ◌++◌, codes}
use Rattle.std.specs.Fmt.{decimal}
use Rattle.refusal.specs.declared.Side.{Side}
use Rattle.refusal.specs.declared.Side.TheVariants.{Original, Translation, Header, Rule}
use Rattle.refusal.specs.declared.Where.{Where}
use Rattle.refusal.specs.declared.Where.TheVariants.{File, Forced, Entry}
use Rattle.refusal.specs.declared.Refusal.{Refusal}
use Rattle.refusal.specs.Numbers.{number_of}

abbrev pub side_text : Side → List ℕ
side_text Original = codes "original"
side_text Translation = codes "translation"
side_text Header = codes "header"
side_text Rule = codes "rule"

abbrev pub place_text : Where → List ℕ
place_text File = codes ""
place_text Forced = codes " rule"
place_text (Entry i side) = codes " " ++ decimal i ++ codes " " ++ side_text side

abbrev pub refusal_text : Refusal → List ℕ
refusal_text r = decimal (number_of r.error) ++ place_text r.place
