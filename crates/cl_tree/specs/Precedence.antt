-- The words that join, alter or mark expressions and types, and how tightly they do.
use Rattle.std.specs.Prelude.{ℕ, zero, suc, Bool, true, false, nat_eq}
use Rattle.cl_tree.specs.declared.terminal.Terminal.{Terminal}
use Rattle.cl_tree.specs.declared.terminal.Terminal.TheVariants as terminals
use Rattle.cl_tree.specs.declared.tree.Form.{Form}
use Rattle.cl_tree.specs.declared.tree.Form.TheVariants as forms

-- How loosely a token behind an expression binds to it: 0 for what stands directly behind an operand, 1 to 10 for
-- the operators with two operands, from `*` to `||`, then `?`, the assignments and the comma. 14 for all others.
abbrev pub looseness : Terminal → ℕ
looseness terminals.Open = 0
looseness terminals.OpenBracket = 0
looseness terminals.Step = 0
looseness terminals.Point = 0
looseness terminals.Star = 1
looseness terminals.Slash = 1
looseness terminals.PlusMinus = 2
looseness terminals.Shift = 3
looseness terminals.Relation = 4
looseness terminals.Equality = 5
looseness terminals.Ampersand = 6
looseness terminals.Caret = 7
looseness terminals.Bar = 8
looseness terminals.AndAnd = 9
looseness terminals.OrOr = 10
looseness terminals.Question = 11
looseness terminals.Equals = 12
looseness terminals.Compound = 12
looseness terminals.Comma = 13
looseness _ = 14

-- the operators that join at the level of that number, from 0, the tightest
abbrev pub joins : ℕ → Terminal → Bool
joins k t = nat_eq (looseness t) (suc k)

-- the production of the operators of that level
abbrev pub form_of : ℕ → Form
form_of zero = forms.TermNode
form_of (suc zero) = forms.SumNode
form_of (suc (suc zero)) = forms.ShiftNode
form_of (suc (suc (suc zero))) = forms.OrderNode
form_of (suc (suc (suc (suc zero)))) = forms.EqualNode
form_of (suc (suc (suc (suc (suc zero))))) = forms.BandNode
form_of (suc (suc (suc (suc (suc (suc zero)))))) = forms.BxorNode
form_of (suc (suc (suc (suc (suc (suc (suc zero))))))) = forms.BorNode
form_of (suc (suc (suc (suc (suc (suc (suc (suc zero)))))))) = forms.AndNode
form_of _ = forms.OrNode

-- `=` and the compound assignments
abbrev pub assigns : Terminal → Bool
assigns terminals.Equals = true
assigns terminals.Compound = true
assigns _ = false

-- the operators before an operand that is a cast
abbrev pub prefixes : Terminal → Bool
prefixes terminals.PlusMinus = true
prefixes terminals.Tilde = true
prefixes terminals.Ampersand = true
prefixes terminals.Star = true
prefixes _ = false

-- the words behind a star, and those around a base type that are no address space
abbrev pub qualifies : Bool → Terminal → Bool
qualifies behind_star terminals.Qualifier = true
qualifies behind_star terminals.Restrict = behind_star
qualifies behind_star _ = false
