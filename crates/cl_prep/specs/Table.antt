-- The table of names, as a contract sees it.
use Rattle.std.specs.Prelude.{ℕ, option_map, Vec}
use Rattle.std.specs.Str.{bytes_eq}
use Rattle.std.specs.declared.alloc.Global.{Global}
use Rattle.indexmap.specs.IndexMap.{IndexMap, get_by}
use Rattle.cl_token.specs.Lexeme.{lexemes_of}
use Rattle.cl_token.specs.declared.token.Token.{Token}
use Rattle.cl_prep.specs.Names.{Names}

-- the names in force that a table keeps
abbrev pub names_of : {S : Type 0} → IndexMap (Vec ℕ Global) (Vec Token Global) S → Names
names_of m name = option_map (λ b. lexemes_of b.items) (get_by (λ k. bytes_eq name k.items) m)
