-- What a text that the program read says.
use Rattle.std.specs.Prelude.{map}
use Rattle.av_net.specs.Grammar.{Text, ModuleText, SignalDeclaration, wire, register, PortLink, Instantiation, Item, drive, widening, step, instance}
use Rattle.av_vparse.specs.declared.parsed.SignalDeclaration.{SignalDeclaration as FoundDeclaration}
use Rattle.av_vparse.specs.declared.parsed.SignalDeclaration.TheVariants as declaration
use Rattle.av_vparse.specs.declared.parsed.Item.{Item as FoundItem}
use Rattle.av_vparse.specs.declared.parsed.Item.TheVariants as item
use Rattle.av_vparse.specs.declared.parsed.PortLink.{PortLink as FoundLink}
use Rattle.av_vparse.specs.declared.parsed.Instantiation.{Instantiation as FoundInstance}
use Rattle.av_vparse.specs.declared.parsed.ModuleText.{ModuleText as FoundModule}
use Rattle.av_vparse.specs.declared.parsed.Text.{Text as FoundText}

abbrev pub said_declaration : FoundDeclaration → SignalDeclaration
said_declaration (declaration.Wire port) = wire port
said_declaration (declaration.Register port) = register port

abbrev pub said_link : FoundLink → PortLink
said_link x = record { port = x.port; operand = x.operand }

abbrev pub said_instance : FoundInstance → Instantiation
said_instance x = record { kind = x.kind; name = x.name; links = map said_link x.links }

abbrev pub said_item : FoundItem → Item
said_item (item.Drive d) = drive d
said_item (item.Widening bit d) = widening bit d
said_item (item.Step width s) = step width s
said_item (item.Instance x) = instance (said_instance x)

abbrev pub said_module : FoundModule → ModuleText
said_module x = record {
  name = x.name;
  inputs = x.inputs;
  outputs = x.outputs;
  declarations = map said_declaration x.declarations;
  items = map said_item x.items;
}

abbrev pub said : FoundText → Text
said x = record { kinds = map said_module x.kinds; top = said_module x.top }
