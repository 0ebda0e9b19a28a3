-- What the format asks of classes holds of those that a file says, where the file breaks no rule.
use Rattle.std.proofs.Common.{◌≡◌, ◌≤◌, ℕ, List, length, map, None}
use Rattle.pi_model.specs.Program.{Program}
use Rattle.pi_bytes.specs.Numbers.{most_bytes}
use Rattle.pi_format.specs.Rules.{broken_rule}
use Rattle.pi_format.specs.Says.{named_file, with_said}
use Rattle.pi_format.specs.Says.Classes.{classes_said}
use Rattle.pi_contents.specs.Named.{text_in, content_in}
use Rattle.pi_contents.specs.Asked.{IsOfFormat}
use Rattle.pi_saidkeeps.specs.Chains.{AreBytes}
use Rattle.pi_saidkeeps.proofs.Spelled.{said_is_read}
use Rattle.pi_saidkeeps.proofs.Naming.{types_hold, protos_hold, fields_hold, methods_hold}
use Rattle.pi_saidkeeps.proofs.Classes.{classes_hold}
use Rattle.pi_saidkeeps.proofs.Members.{members_hold}
use Rattle.pi_saidkeeps.proofs.Inits.{inits_hold}
use Rattle.pi_saidkeeps.proofs.Bodies.{bodies_hold}
use Rattle.pi_saidkeeps.proofs.Lines.{lines_hold}
use Rattle.pi_saidkeeps.proofs.Switches.{switches_hold}

pub said_is_of_format : (p : Program) (file : List ℕ) (number : ℕ) → AreBytes file → length file ≤ most_bytes → broken_rule file ≡ None
    → IsOfFormat (map (content_in (with_said p file)) (classes_said (named_file p file) number))
said_is_of_format p file number bytes short kept =
    let text = text_in (with_said p file) in
    let n = named_file p file in
    let read = said_is_read p file kept in
    record {
      x13 = types_hold text n number read;
      x14 = protos_hold text n number read;
      x15 = fields_hold text n number read;
      x16 = methods_hold text n number read;
      x17 = classes_hold text n number read;
      x18 = members_hold text n number read;
      x19 = inits_hold p file number bytes kept;
      x20 = bodies_hold p file number bytes kept;
      x21 = lines_hold p file number bytes kept;
      x23 = switches_hold p file number bytes kept;
    }
