-- What a line that is cut at its first space answers. Assumes nothing.
use Rattle.std.proofs.Common.{◌≡◌, ℕ, ◌-◌, ◌%◌, ◌^◌, ◌<◌, ◌≤◌, List, [], ◌∷◌, Some, None, Ok, Err, Option, Result, MatchResult, codes, IsUtf8, sym, ap, ◌∙◌, subst, arith}
use Rattle.std.proofs.lemmas.Str.{IsUtf8-from_ascii}
use Rattle.std.proofs.ByRecursion.{IsAscii-from_all}
use Rattle.std.specs.Result.{result_ok}
use Rattle.notation.specs.Cut.{cut}
use Rattle.layout.specs.Named.{row_of, NoName}
use Rattle.layout.specs.Layouts.{width_of}
use Rattle.layout.specs.declared.named.ListName.{ListName}
use Rattle.layout.specs.declared.named.ListName.TheVariants.{V4, V4Small, V6}
use Rattle.layout.specs.Prefixes.{Made}
use Rattle.layout.specs.declared.layout.Layout.{Layout}
use Rattle.layout.specs.declared.prefix.PrefixFault.{PrefixFault}
use Rattle.layout.specs.declared.prefix.PrefixFault.TheVariants.{AddressBeyondWidth, LengthBeyondWidth, BitsAfterLength}
use Rattle.lines.specs.Prefixes.{read_prefix}
use Rattle.explanation.specs.Queries.{Placed, Says, Answers, fault_of}

-- the names are text
named_utf8 : (list : ListName) → IsUtf8 (row_of list).name
named_utf8 V4 = IsUtf8-from_ascii (codes "v4") (IsAscii-from_all (codes "v4") (omega arith))
named_utf8 V4Small = IsUtf8-from_ascii (codes "v4-small") (IsAscii-from_all (codes "v4-small") (omega arith))
named_utf8 V6 = IsUtf8-from_ascii (codes "v6") (IsAscii-from_all (codes "v6") (omega arith))

-- what is said where a result that was asked for its value had none
pub no_text : {T E : Type 0} (P : T → Type 0) (Q : Type 0) (R : E → Type 0) (r : Result T E) → ◌≡◌ {A = Option T} None (result_ok r) → MatchResult r P (λ e. Q × R e) → Q
no_text P Q R (Ok x) none m = cc
no_text P Q R (Err e) none m = m.0

pub no_text_no_name : (name : List ℕ) → (IsUtf8 name → ⊥) → NoName name
no_text_no_name name h list has = h (subst IsUtf8 has (named_utf8 list))

module _ (line name rest : List ℕ) (layout : Layout) (cuts : cut (32 ∷ []) line ≡ Some (name, rest)) (placed : Placed name layout) where
  says : (P w : ℕ) → read_prefix (width_of layout).bits rest ≡ Some (P, w) → Says line placed.0 P w
  says P w reads = record {
    name = name;
    rest = rest;
    cuts = cuts;
    named = placed.1;
    prefix = ap (λ b. read_prefix b rest) (sym placed.2.width) ∙ reads;
  }

  pub faulty : (P w : ℕ) (fault : PrefixFault) → read_prefix (width_of layout).bits rest ≡ Some (P, w) → P < 2 ^ (width_of layout).bits
      → Made (width_of layout) P w (Err fault) → Answers line (Err (fault_of fault))
  faulty P w AddressBeyondWidth reads fits made = absurd (omega arith)
  faulty P w LengthBeyondWidth reads fits made = record {
    list = placed.0;
    address = P;
    length = w;
    says = says P w reads;
    beyond = subst (λ b. b < w) placed.2.width made.1;
  }
  faulty P w BitsAfterLength reads fits made = record {
    list = placed.0;
    address = P;
    length = w;
    says = says P w reads;
    within = subst (λ b. w ≤ b) placed.2.width made.1;
    bits = subst (λ b. P % 2 ^ (b - w) ≡ 0 → ⊥) placed.2.width made.2;
  }
