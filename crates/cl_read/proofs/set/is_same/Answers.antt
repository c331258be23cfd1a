use Rattle.std.proofs.Common.{◌≡◌, refl}
use denote.Enum.Declared.{tag_of}
use Rattle.cl_tree.specs.contracts.terminal.Terminal.{the_type}
use Rattle.cl_tree.specs.declared.terminal.Terminal.{Terminal}
use Rattle.cl_tree.specs.declared.terminal.Terminal.TheVariants as terminals
use Rattle.cl_read.specs.Starts.{code}
use Rattle.cl_read.proofs.set.is_same.Goals as goal

tag_is : (j : Terminal) → tag_of the_type j ≡ code j
tag_is terminals.Name = refl
tag_is terminals.Number = refl
tag_is terminals.Truth = refl
tag_is terminals.HeadWord = refl
tag_is terminals.Attribute = refl
tag_is terminals.AttributeName = refl
tag_is terminals.Void = refl
tag_is terminals.TypeWord = refl
tag_is terminals.Sign = refl
tag_is terminals.Char = refl
tag_is terminals.Int = refl
tag_is terminals.Length = refl
tag_is terminals.Qualifier = refl
tag_is terminals.Restrict = refl
tag_is terminals.Space = refl
tag_is terminals.If = refl
tag_is terminals.Else = refl
tag_is terminals.While = refl
tag_is terminals.Do = refl
tag_is terminals.For = refl
tag_is terminals.Switch = refl
tag_is terminals.Case = refl
tag_is terminals.Default = refl
tag_is terminals.Break = refl
tag_is terminals.Continue = refl
tag_is terminals.Return = refl
tag_is terminals.Sizeof = refl
tag_is terminals.OpenBrace = refl
tag_is terminals.CloseBrace = refl
tag_is terminals.Open = refl
tag_is terminals.Close = refl
tag_is terminals.OpenBracket = refl
tag_is terminals.CloseBracket = refl
tag_is terminals.Semicolon = refl
tag_is terminals.Comma = refl
tag_is terminals.Colon = refl
tag_is terminals.Question = refl
tag_is terminals.Equals = refl
tag_is terminals.Compound = refl
tag_is terminals.OrOr = refl
tag_is terminals.AndAnd = refl
tag_is terminals.Bar = refl
tag_is terminals.Caret = refl
tag_is terminals.Ampersand = refl
tag_is terminals.Equality = refl
tag_is terminals.Relation = refl
tag_is terminals.Shift = refl
tag_is terminals.PlusMinus = refl
tag_is terminals.Star = refl
tag_is terminals.Slash = refl
tag_is terminals.Tilde = refl
tag_is terminals.Step = refl
tag_is terminals.Point = refl
tag_is terminals.Other = refl

pub returns : goal.returns
returns c = rw (tag_is c.args.a, tag_is c.args.b) refl
