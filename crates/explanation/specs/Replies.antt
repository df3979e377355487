-- The whole reply to a line. Assumes nothing.
use Rattle.std.specs.Prelude.{◌≡◌, ℕ, List, [], ◌∷◌, ◌++◌, Ok, Err, Result}
use Rattle.std.specs.List.{flat_map}
use Rattle.explanation.specs.Queries.{Answers}
use Rattle.explanation.specs.Places.{PlacesOf}
use Rattle.explanation.specs.Texts.{query_text, place_text, fault_text}
use Rattle.explanation.specs.declared.query.Query.{Query}
use Rattle.explanation.specs.declared.query.LineFault.{LineFault}
use Rattle.explanation.specs.declared.place.Place.{Place}

-- a place on a line of its own, after two spaces
abbrev pub place_line : Place → List ℕ
place_line p = 32 ∷ 32 ∷ (place_text p ++ (10 ∷ []))

-- the prefix and its list's generator on a line
abbrev pub heading_of : Query → List ℕ
heading_of q = query_text q ++ (10 ∷ [])

-- below the heading, the places that the query has
pub record Explains (q : Query) (bytes : List ℕ) : Type 0 where
  pub places : List Place
  pub are : PlacesOf q places
  pub text : bytes ≡ heading_of q ++ flat_map place_line places

abbrev pub Worded : Result Query LineFault → List ℕ → Type 0
Worded (Ok q) bytes = Explains q bytes
Worded (Err fault) bytes = bytes ≡ fault_text fault ++ (10 ∷ [])

-- what the line means, in words
abbrev pub ReplyTo : List ℕ → List ℕ → Type 0
ReplyTo line bytes = (r : Result Query LineFault) × Answers line r × Worded r bytes
