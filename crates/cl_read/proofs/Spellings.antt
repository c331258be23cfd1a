-- A token in one of its terminal's spellings is a token of that terminal.
use Rattle.std.proofs.Common.{◌≡◌, ℕ, suc, false, List, [], ◌∷◌, map, refl, sym, ap, ◌∙◌}
use Rattle.cl_token.specs.declared.token.Kind.{Kind}
use Rattle.cl_token.specs.declared.token.Kind.TheVariants as kinds
use Rattle.cl_token.specs.declared.token.Token.{Token}
use Rattle.cl_tree.specs.declared.terminal.Terminal.{Terminal}
use Rattle.cl_tree.specs.declared.terminal.Terminal.TheVariants as terminals
use Rattle.cl_tree.specs.declared.terminal.Leaf.{Leaf}
use Rattle.cl_tree.specs.Nodes.{tok}
use Rattle.cl_tree.specs.Words.{terminal_of, control_word_of, declaration_word_of, space_word_of, base_word_of}
use Rattle.cl_tree.specs.Words.{outside_word_of, vector_word_of, bracket_of, operator_of, assignment_of}
use Rattle.cl_tree.specs.Leaves.{leaves_of}
use Rattle.cl_read.proofs.Tails.{spelling, spot, leaves_at}

abbrev kind_of : Terminal → Kind
kind_of terminals.Number = kinds.Number
kind_of terminals.Other = kinds.Hash
kind_of terminals.OpenBrace = kinds.Mark
kind_of terminals.CloseBrace = kinds.Mark
kind_of terminals.Open = kinds.Mark
kind_of terminals.Close = kinds.Mark
kind_of terminals.OpenBracket = kinds.Mark
kind_of terminals.CloseBracket = kinds.Mark
kind_of terminals.Semicolon = kinds.Mark
kind_of terminals.Comma = kinds.Mark
kind_of terminals.Colon = kinds.Mark
kind_of terminals.Question = kinds.Mark
kind_of terminals.Equals = kinds.Mark
kind_of terminals.Compound = kinds.Mark
kind_of terminals.OrOr = kinds.Mark
kind_of terminals.AndAnd = kinds.Mark
kind_of terminals.Bar = kinds.Mark
kind_of terminals.Caret = kinds.Mark
kind_of terminals.Ampersand = kinds.Mark
kind_of terminals.Equality = kinds.Mark
kind_of terminals.Relation = kinds.Mark
kind_of terminals.Shift = kinds.Mark
kind_of terminals.PlusMinus = kinds.Mark
kind_of terminals.Star = kinds.Mark
kind_of terminals.Slash = kinds.Mark
kind_of terminals.Tilde = kinds.Mark
kind_of terminals.Step = kinds.Mark
kind_of terminals.Point = kinds.Mark
kind_of _ = kinds.Name

spelled_so : (j : Terminal) → terminal_of (kind_of j) (spelling j) ≡ j
unfolding terminal_of control_word_of declaration_word_of space_word_of base_word_of outside_word_of vector_word_of
    bracket_of operator_of assignment_of
spelled_so terminals.Name = refl
spelled_so terminals.Number = refl
spelled_so terminals.Truth = refl
spelled_so terminals.HeadWord = refl
spelled_so terminals.Attribute = refl
spelled_so terminals.AttributeName = refl
spelled_so terminals.Void = refl
spelled_so terminals.TypeWord = refl
spelled_so terminals.Sign = refl
spelled_so terminals.Char = refl
spelled_so terminals.Int = refl
spelled_so terminals.Length = refl
spelled_so terminals.Qualifier = refl
spelled_so terminals.Restrict = refl
spelled_so terminals.Space = refl
spelled_so terminals.If = refl
spelled_so terminals.Else = refl
spelled_so terminals.While = refl
spelled_so terminals.Do = refl
spelled_so terminals.For = refl
spelled_so terminals.Switch = refl
spelled_so terminals.Case = refl
spelled_so terminals.Default = refl
spelled_so terminals.Break = refl
spelled_so terminals.Continue = refl
spelled_so terminals.Return = refl
spelled_so terminals.Sizeof = refl
spelled_so terminals.OpenBrace = refl
spelled_so terminals.CloseBrace = refl
spelled_so terminals.Open = refl
spelled_so terminals.Close = refl
spelled_so terminals.OpenBracket = refl
spelled_so terminals.CloseBracket = refl
spelled_so terminals.Semicolon = refl
spelled_so terminals.Comma = refl
spelled_so terminals.Colon = refl
spelled_so terminals.Question = refl
spelled_so terminals.Equals = refl
spelled_so terminals.Compound = refl
spelled_so terminals.OrOr = refl
spelled_so terminals.AndAnd = refl
spelled_so terminals.Bar = refl
spelled_so terminals.Caret = refl
spelled_so terminals.Ampersand = refl
spelled_so terminals.Equality = refl
spelled_so terminals.Relation = refl
spelled_so terminals.Shift = refl
spelled_so terminals.PlusMinus = refl
spelled_so terminals.Star = refl
spelled_so terminals.Slash = refl
spelled_so terminals.Tilde = refl
spelled_so terminals.Step = refl
spelled_so terminals.Point = refl
spelled_so terminals.Other = refl

abbrev pub token_at : Terminal → Token
token_at j = record { kind = kind_of j; word = spelling j; start = 0; end = 0; first = false }

pub leaves_are : (k : ℕ) (js : List Terminal) → leaves_at k js ≡ leaves_of k (map token_at js)
leaves_are k [] = refl
leaves_are k (j ∷ js) =
    ap (λ (l : List Leaf). tok j (spot j k) ∷ l) (leaves_are (suc k) js)
    ∙ ap (λ (t : Terminal). record { number = k; terminal = t; word = spelling j } ∷
    leaves_of (suc k) (map token_at js)) (sym (spelled_so j))
