-- A setting as the reader keeps it, in the terms of its definition.
use Rattle.av_data.specs.declared.forms.Setting.{Setting as Found}
use Rattle.av_data.specs.Reading.{Setting}

abbrev pub view_setting : Found → Setting
view_setting s = record { cycle = s.cycle.now; port = s.port.now; value = s.value.now }
