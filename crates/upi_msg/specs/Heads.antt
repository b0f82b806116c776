-- Reading a `Head`.
use Rattle.std.specs.Prelude.{Option, Some, None, Result, Ok, codes, if◌then◌else◌}
use Rattle.std.specs.Str.{bytes_eq}
use Rattle.upi_base.specs.Texts.{is_msg_id, is_org_id}
use Rattle.upi_msg.specs.Types.{Text, Data, Ver, Head}
use Rattle.upi_msg.specs.Members.{◌>>=◌, object_in, small_in, moment_in, read_in}
use Rattle.upi_msg.specs.declared.place.{Root.Root, Part.Part, Name.Name, Fault.Fault}

-- the version of a word
abbrev pub ver_named : Text → Option Ver
ver_named s = if bytes_eq s (codes "1.0") then Some Ver.One else (if bytes_eq s (codes "2.0") then Some Ver.Two else None)

-- `ver`: a version
unfoldable pub ver_in : Part → Data → Result Ver Fault
ver_in p d = read_in ver_named p Name.Ver d

-- `Head`: `msgId`, `orgId`, `ts`, `ver`
unfoldable pub head_of : Root → Data → Result Head Fault
head_of r d = do
  head ← object_in (Part.Root r) Name.Head d
  msg_id ← small_in is_msg_id (Part.Head r) Name.MsgId head
  org ← small_in is_org_id (Part.Head r) Name.OrgId head
  ts ← moment_in (Part.Head r) Name.Ts head
  ver ← ver_in (Part.Head r) head
  Ok (record { msg_id = msg_id; org = org; ts = ts; ver = ver })
