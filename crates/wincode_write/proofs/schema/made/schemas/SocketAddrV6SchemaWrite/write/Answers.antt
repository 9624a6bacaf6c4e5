use Rattle.std.proofs.Common.{◌+◌, true}
use Rattle.std.specs.Net.Socket.{v6_port, v6_flowinfo, v6_scope_id}
use Rattle.wincode_base.specs.Arrays.{array_write}
use Rattle.wincode_base.specs.InWindow.{windowed_write}
use Rattle.wincode_base.specs.Leaves.{number_write}
use Rattle.wincode_base.specs.SocketLaws.{port_outcome}
use Rattle.wincode_write.proofs.schema.made.schemas.SocketAddrV6SchemaWrite.write.Goals as goal

pub returns : goal.returns
returns g c =
    let a = c.args.src.now in
    port_outcome (windowed_write (array_write 16 (number_write 1 true))) _ (v6_port a) (v6_flowinfo a + v6_scope_id a) _ _ _
    c.write_made.result c.write_made.ensures
